-- A stream that is printed, over any rows: what stands of it after each push, and at its end.
use Rattle.std.proofs.Common.{◌≡◌, ℕ, ◌+◌, ◌-◌, Bool, true, List, [], ◌++◌, length, take, drop, refl, sym, ap, subst, ◌∙◌, append_assoc, append-nil}
use Rattle.std.proofs.lemmas.Grind.{flat_map-append}
use Rattle.avl_values.specs.declared.fault.Fault.{Fault}
use Rattle.layout.specs.Rows.{Rows}
use Rattle.item_streams.specs.Readers.{Begin, Decided, GoesOn, Pushed, ReadTo, Reader, added, broken, fresh, item, more}
use Rattle.item_streams.specs.Streams.{Item, reading_of}
use Rattle.item_streams.proofs.Exports.{pushed_slice, read_first, reads_broken, reads_on}
use Rattle.show_lines.specs.ItemTexts.{fault_text}
use Rattle.show_lines.specs.Json.{as_line}
use Rattle.fmb_show.specs.Shown.{Print, reading_print}
use Rattle.fmb_show.proofs.ReadingPrints.{ends_broken, item_lines}

module _ {V : Type 0} (rows : Bool → Rows V) (lent : V → List ℕ → List ℕ) (lines : V → ℕ → List ℕ) where
  -- Of the bytes up to a place the lines of the items were appended, and the reader has their rest.
  pub record HasShown (after_first : Bool) (bytes : List ℕ) (at line : ℕ) (before out : List ℕ) (s : Reader) : Type 0 where
    pub items : List (Item V)
    pub read : ReadTo rows after_first bytes at items s
    pub printed : out ≡ before ++ item_lines lines items line

  pub begins : (after_first : Bool) (bytes : List ℕ) (line : ℕ) (before : List ℕ) (s : Reader) → Begin rows → s ≡ fresh after_first → HasShown after_first bytes 0 line before before s
  begins after_first bytes line before s begin is =
      let read : ReadTo rows after_first bytes 0 [] s = subst (λ (x : Reader). ReadTo rows after_first bytes 0 [] x) (sym is) (read_first rows lent (fresh after_first) bytes begin refl refl) in
      record { items = []; read = read; printed = sym (append-nil before) }

  -- what an answer adds to what was printed
  abbrev pub said_lines : Decided V → ℕ → List ℕ
  said_lines more line = []
  said_lines (item v) line = lines v line
  said_lines (broken kind place) line = []

  lines_added : (d : Decided V) (end line : ℕ) → item_lines lines (added d end) line ≡ said_lines d line
  lines_added more end line = refl
  lines_added (item v) end line = append-nil (lines v line)
  lines_added (broken kind place) end line = refl

  -- what the stream prints in all
  abbrev pub print_of : Bool → List ℕ → ℕ → Print
  print_of after_first bytes line = reading_print lines (rows after_first) (rows true) (reading_of (rows after_first) (rows true) 0 bytes) line

  -- the bytes that are left, as a slice of all
  abbrev pub left_from : ℕ → List ℕ → List ℕ
  left_from at bytes = take (length bytes - at) (drop at bytes)

  pushed_rest : (bytes : List ℕ) (at n : ℕ) (old new : Reader) (given d : Decided V) → given ≡ d → Pushed rows lent old new (left_from at bytes) n given → Pushed rows lent old new (drop at bytes) n d
  pushed_rest bytes at n old new given d is p = pushed_slice rows lent bytes at n old new d (subst (λ (x : Decided V). Pushed rows lent old new (left_from at bytes) n x) is p)

  -- an answer and its lines
  pub shows_more : (after_first : Bool) (bytes : List ℕ) (at line : ℕ) (before out out' : List ℕ) (old new : Reader) (n : ℕ) (given d : Decided V) → Begin rows → HasShown after_first bytes at line before out old
      → Pushed rows lent old new (left_from at bytes) n given → given ≡ d → GoesOn d → out' ≡ out ++ said_lines d line → HasShown after_first bytes (at + n) line before out' new
  shows_more after_first bytes at line before out out' old new n given d begin h pushed answers goes is = record {
    items = h.items ++ added d (at + n);
    read = reads_on rows lent after_first bytes at n h.items old new d begin h.read (pushed_rest bytes at n old new given d answers pushed) goes;
    printed = is ∙ ap (λ (o : List ℕ). o ++ said_lines d line) h.printed
        ∙ append_assoc before (item_lines lines h.items line) (said_lines d line)
        ∙ ap (λ (l : List ℕ). before ++ (item_lines lines h.items line ++ l)) (sym (lines_added d (at + n) line))
        ∙ ap (λ (l : List ℕ). before ++ l) (sym (flat_map-append (λ (i : Item V). lines i.value line) h.items (added d (at + n))));
  }

  -- a fault, after which nothing more is printed
  pub shows_fault : (after_first : Bool) (bytes : List ℕ) (at line : ℕ) (before out : List ℕ) (old new : Reader) (n : ℕ) (given : Decided V) (found : Fault) → Begin rows
      → HasShown after_first bytes at line before out old → Pushed rows lent old new (left_from at bytes) n given → given ≡ broken found.kind found.place
      → (out ++ as_line (fault_text found line) ≡ before ++ (print_of after_first bytes line).text) × ((print_of after_first bytes line).faulty ≡ true)
  shows_fault after_first bytes at line before out old new n given found begin h pushed answers =
      let p = pushed_rest bytes at n old new given (broken found.kind found.place) answers pushed in
      let e = ends_broken lines rows after_first bytes h.items _ line found.kind found.place (reads_broken rows lent after_first bytes at n h.items old new found.kind found.place begin h.read p) in (
        ap (λ (o : List ℕ). o ++ as_line (fault_text found line)) h.printed
            ∙ append_assoc before (item_lines lines h.items line) (as_line (fault_text found line))
            ∙ ap (λ (q : Print). before ++ q.text) (sym e),
        ap (λ (q : Print). q.faulty) e,
      )
