-- What was read in some bytes, and then in more.
use Rattle.std.proofs.Common.{◌≡◌, ℕ, Bool, true, false, List, [], ◌∷◌, ◌++◌, length, take, refl, sym, ap, subst, ◌∙◌, append_assoc, append-nil}
use Rattle.std.proofs.lemmas.List.{map-append}
use Rattle.avl_values.specs.declared.fault.Fault.{Fault}
use Rattle.avl_values.specs.declared.fault.FaultKind.{FaultKind}
use Rattle.layout.specs.Rows.{Rows, fault, judge}
use Rattle.item_streams.specs.Laws.{AreStreamRows}
use Rattle.item_streams.specs.Readers.{Decided, HasRead, Pushed, Reader, ReadsAs, added, broken, item, more}
use Rattle.item_streams.specs.Streams.{Item, Reading, next_rows, values}
use Rattle.item_streams.proofs.ReaderSteps.{pushes_read, read_none}
use Rattle.item_streams.proofs.StreamLaws.{fault_ends, prefix}
use Rattle.frame_layout.specs.Readings.{up_reading}
use Rattle.frame_layout.specs.UpRows.{up_rows}
use Rattle.frame_layout.specs.Values.{UpValue}
use Rattle.frame_layout.proofs.Lengths.{starts_short_up}
use Rattle.frame_channel.specs.UpPushes.{lent_up}
use Rattle.session_core.specs.Readings.{HadRead, Reads, Heads, ReadsFault}

pub values_then : (xs ys : List (Item UpValue)) → values (xs ++ ys) ≡ values xs ++ values ys
values_then xs ys = map-append (λ (i : Item UpValue). i.value) xs ys

pub up_stream : AreStreamRows (up_rows false) (up_rows true)
up_stream = record { first_begins = starts_short_up false; later_begins = starts_short_up true }

-- a reader before its first byte has read nothing
pub nothing_read : (s : Reader) → s.after_first ≡ false → s.have ≡ [] → HadRead [] [] s
nothing_read s first none = let P : Bool → Type 0 = λ b. HasRead up_rows b [] [] s in subst P first (read_none up_rows lent_up s starts_short_up none)

pub reads_none : (s : Reader) → Reads [] [] s s
reads_none s = record {
  reads = λ before items had. record {
    further = [];
    say = refl;
    has = (let P : List ℕ × List (Item UpValue) → Type 0 = λ z. HadRead z.0 z.1 s in subst P (λ i. (sym (append-nil before) i, sym (append-nil items) i)) had);
  };
}

pub reads_then : (a b : List ℕ) (vs ws : List UpValue) (r s t : Reader) → Reads a vs r s → Reads b ws s t → Reads (a ++ b) (vs ++ ws) r t
reads_then a b vs ws r s t p q = record {
  reads = λ before items had.
      let one = p.reads before items had in
      let two = q.reads (before ++ a) (items ++ one.further) one.has in
      record {
        further = one.further ++ two.further;
        say = values_then one.further two.further ∙ ap (λ (x : List UpValue × List UpValue). x.0 ++ x.1) (λ i. (one.say i, two.say i));
        has = (let P : List ℕ × List (Item UpValue) → Type 0 = λ z. HadRead z.0 z.1 t in subst P (λ i. (append_assoc before a b i, append_assoc items one.further two.further i)) two.has);
      };
}

-- what an answer of the reader says
abbrev pub said_in : Decided UpValue → List UpValue
said_in more = []
said_in (item v) = v ∷ []
said_in (broken kind place) = []

added_say : (d : Decided UpValue) (end : ℕ) → values (added d end) ≡ said_in d
added_say more end = refl
added_say (item v) end = refl
added_say (broken kind place) end = refl

pub reads_push : (old new : Reader) (piece : List ℕ) (n : ℕ) (d : Decided UpValue) → Pushed up_rows lent_up old new piece n d → Reads (take n piece) (said_in d) old new
reads_push old new piece n d p = record {
  reads = λ before items had. record {
    further = added d (length (before ++ take n piece));
    say = added_say d (length (before ++ take n piece));
    has = pushes_read up_rows lent_up false before items old new piece n d starts_short_up had p;
  };
}

-- what was read comes first in the bytes
pub heads_read : (bytes : List ℕ) (said : List UpValue) (old new : Reader) → Reads bytes said old new → Heads bytes said old
heads_read bytes said old new p = record {
  heads = λ before items had.
      let r = p.reads before items had in
      record {
        further = r.further;
        others = [];
        say = r.say;
        are = ap (λ (x : Reading UpValue). x.items) r.has.is ∙ ap (λ (x : List (Item UpValue)). items ++ x) (sym (append-nil r.further));
      };
}

pub heads_after : (a b : List ℕ) (vs ws : List UpValue) (r s : Reader) → Reads a vs r s → Heads b ws s → Heads (a ++ b) (vs ++ ws) r
heads_after a b vs ws r s p q = record {
  heads = λ before items had.
      let one = p.reads before items had in
      let two = q.heads (before ++ a) (items ++ one.further) one.has in
      record {
        further = one.further ++ two.further;
        others = two.others;
        say = values_then one.further two.further ∙ ap (λ (x : List UpValue × List UpValue). x.0 ++ x.1) (λ i. (one.say i, two.say i));
        are = ap (λ (x : List ℕ). (up_reading false x).items) (sym (append_assoc before a b)) ∙ (two.are ∙ (append_assoc items one.further (two.further ++ two.others)
            ∙ ap (λ (x : List (Item UpValue)). items ++ x) (sym (append_assoc one.further two.further two.others))));
      };
}

pub heads_wider : (a b : List ℕ) (vs : List UpValue) (r : Reader) → Heads a vs r → Heads (a ++ b) vs r
heads_wider a b vs r p = record {
  heads = λ before items had.
      let one = p.heads before items had in
      let law = prefix (up_rows false) (up_rows true) 0 (before ++ a) b up_stream in
      record {
        further = one.further;
        others = one.others ++ law.0;
        say = one.say;
        are = ap (λ (x : List ℕ). (up_reading false x).items) (sym (append_assoc before a b)) ∙ (law.1 ∙ (ap (λ (x : List (Item UpValue)). x ++ law.0) one.are
            ∙ (append_assoc items (one.further ++ one.others) law.0 ∙ ap (λ (x : List (Item UpValue)). items ++ x) (append_assoc one.further one.others law.0))));
      };
}

-- a fault

pub fault_push : (found : Fault) (old new : Reader) (piece : List ℕ) (n : ℕ) → Pushed up_rows lent_up old new piece n (broken found.kind found.place) → ReadsFault found (take n piece) [] old
fault_push found old new piece n p = record {
  reads = λ before items had.
      let has = pushes_read up_rows lent_up false before items old new piece n (broken found.kind found.place) starts_short_up had p in
      record {
        further = [];
        rest = new.have;
        say = refl;
        read = record {
          is = has.is;
          judged = ap (λ (x : Rows UpValue). judge x 0 new.have) has.place ∙ (ap (λ (s : Reader). judge (up_rows s.after_first) 0 s.have) p.state ∙ p.verdict);
        };
      };
}

pub fault_after : (found : Fault) (a b : List ℕ) (vs ws : List UpValue) (r s : Reader) → Reads a vs r s → ReadsFault found b ws s → ReadsFault found (a ++ b) (vs ++ ws) r
fault_after found a b vs ws r s p q = record {
  reads = λ before items had.
      let one = p.reads before items had in
      let two = q.reads (before ++ a) (items ++ one.further) one.has in
      record {
        further = one.further ++ two.further;
        rest = two.rest;
        say = values_then one.further two.further ∙ ap (λ (x : List UpValue × List UpValue). x.0 ++ x.1) (λ i. (one.say i, two.say i));
        read = (let P : List ℕ × List (Item UpValue) → Type 0 = λ z. ReadsAs up_rows false z.0 z.1 two.rest (fault found.kind found.place) in
            subst P (λ i. (append_assoc before a b i, append_assoc items one.further two.further i)) two.read);
      };
}

read_wider : (kind : FaultKind) (place : ℕ) (a b : List ℕ) (items : List (Item UpValue)) (rest : List ℕ) → ReadsAs up_rows false a items rest (fault kind place) → ReadsAs up_rows false (a ++ b) items (rest ++ b) (fault kind place)
read_wider kind place a b items rest r =
    let first = up_rows false in
    let Q : Reading UpValue → Type 0 = λ x. judge (next_rows first (up_rows true) x.items) 0 x.rest ≡ fault kind place in
    let ends = fault_ends first (up_rows true) 0 a b kind place up_stream (subst Q (sym r.is) r.judged) in
    let R : Reading UpValue → Type 0 = λ x. judge (next_rows first (up_rows true) x.items) 0 (x.rest ++ b) ≡ fault kind place in
    record {
      is = ends.0 ∙ ap (λ (x : Reading UpValue). (let read : Reading UpValue = record { items = x.items; rest = x.rest ++ b } in read)) r.is;
      judged = (let still : judge (next_rows first (up_rows true) items) 0 (rest ++ b) ≡ fault kind place = subst R r.is ends.1 in still);
    }

pub fault_wider : (found : Fault) (a b : List ℕ) (vs : List UpValue) (r : Reader) → ReadsFault found a vs r → ReadsFault found (a ++ b) vs r
fault_wider found a b vs r p = record {
  reads = λ before items had.
      let one = p.reads before items had in
      record {
        further = one.further;
        rest = one.rest ++ b;
        say = one.say;
        read = (let P : List ℕ → Type 0 = λ z. ReadsAs up_rows false z (items ++ one.further) (one.rest ++ b) (fault found.kind found.place) in
            subst P (append_assoc before a b) (read_wider found.kind found.place (before ++ a) b (items ++ one.further) one.rest one.read));
      };
}
