-- Things that are handed out and come back, one after the other.
use Rattle.std.proofs.Common.{◌≡◌, ◌<◌, ◌+◌, ℕ, zero, suc, List, [], ◌∷◌, ◌++◌, length, map, replicate, Option, None, Some, option_map, refl, sym, ap, subst, ◌∙◌, arith, append_assoc, append-nil, length-append}
use Rattle.std.proofs.lemmas.List.{replicate-append-replicate}
use Rattle.doors.specs.MemoryDoors.{MemoryDoorState}
use Rattle.text_streams.specs.Memory.{MemorySourceView, source_state}
use Rattle.fmb_host.specs.Host.{TakesBack, TakesBackDoor, counted_once}
use Rattle.fmb_host.specs.Memory.{MemoryHostView, QueueView, after_return, gate_state, host_view, return_to, returns_of, stock_of}
use Rattle.fmb_host.specs.Stocks.{AsksFor, ComesBack, ComesFrom, GainsLast, Lends, LendsNamed, LosesFirst, LosesFront, Passes, PassesNamed, Regains, Returns, Stock, lends_one}

-- no more names than were told
no_more : (asked : Option (List (List ℕ))) → asked ≡ option_map (λ told. told ++ []) asked
no_more None = refl
no_more (Some told) = ap (λ names. Some names) (sym (append-nil told))

module _ {T : Type 0} where
  -- nothing was handed out, and nothing came back
  front_none : (told : Option (List T)) → LosesFront told [] told
  front_none None = refl
  front_none (Some items) = refl

  last_none : (told : Option (Returns T)) → GainsLast told [] 0 told
  last_none None = refl
  last_none (Some r) = (sym (append-nil r.back), refl)

  pub passes_none : (stock : Stock T) → Passes [] [] stock stock
  passes_none stock = record { coming = front_none stock.coming; returns = last_none stock.returns }

  front_then : (given more : List T) (a b c : Option (List T)) → LosesFront a given b → LosesFront b more c → LosesFront a (given ++ more) c
  front_then given more None None c first next = next
  front_then given more None (Some y) c first next = absurd (let never : Some y ≡ None = first in cc)
  front_then given more (Some x) None c first next = absurd first
  front_then given more (Some x) (Some y) None first next = absurd next
  front_then given more (Some x) (Some y) (Some z) first next = first ∙ (ap (λ l. given ++ l) next ∙ sym (append_assoc given more z))

  last_then : (back later : List T) (n m : ℕ) (a b c : Option (Returns T)) → GainsLast a back n b → GainsLast b later m c → GainsLast a (back ++ later) (n + m) c
  last_then back later n m None None c first next = next
  last_then back later n m None (Some y) c first next = absurd (let never : Some y ≡ None = first in cc)
  last_then back later n m (Some x) None c first next = absurd first
  last_then back later n m (Some x) (Some y) None first next = absurd next
  last_then back later n m (Some x) (Some y) (Some z) first next = (
    next.0 ∙ (ap (λ l. l ++ later) first.0 ∙ append_assoc x.back back later),
    omega (arith, first.1, next.1, length-append back later),
  )

  -- what passes one after the other
  pub passes_then : (given more back later : List T) (a b c : Stock T) → Passes given back a b → Passes more later b c → Passes (given ++ more) (back ++ later) a c
  passes_then given more back later a b c first next = record {
    coming = front_then given more a.coming b.coming c.coming first.coming next.coming;
    returns = subst (λ (n : ℕ). GainsLast a.returns (back ++ later) n c.returns) (sym (length-append given more)) (last_then back later (length given) (length more) a.returns b.returns c.returns first.returns next.returns);
  }

  front_one : (item : T) (a b : Option (List T)) → LosesFirst a item b → LosesFront a (item ∷ []) b
  front_one item None b first = first
  front_one item (Some x) None first = absurd first
  front_one item (Some x) (Some y) first = first

  lent_one : (a b : Option (Returns T)) → b ≡ lends_one a → GainsLast a [] 1 b
  lent_one None b is = is
  lent_one (Some r) None is = absurd (let never : None ≡ Some _ = is in cc)
  lent_one (Some r) (Some s) is = subst (GainsLast (Some r) [] 1) (sym is) (sym (append-nil r.back), omega arith)

  -- one more was handed out
  pub passes_lent : (given back : List T) (item : T) (a b c : Stock T) → Passes given back a b → Lends b item c → Passes (given ++ item ∷ []) back a c
  passes_lent given back item a b c first next = subst (λ (l : List T). Passes (given ++ item ∷ []) l a c) (append-nil back) (passes_then given (item ∷ []) back [] a b c first
      (record { coming = front_one item b.coming c.coming next.first; returns = lent_one b.returns c.returns next.returns }))

  -- one came back of those that are out
  from_out : (item : T) (n : ℕ) (lent : List T) (c : Option (Returns T)) → 0 < n → ComesFrom n lent item c → GainsLast (Some (record { back = lent; lent = n })) (item ∷ []) 0 c
  from_out item zero lent c out last = absurd (omega (arith, out))
  from_out item (suc n) lent c out last = subst (GainsLast (Some (record { back = lent; lent = suc n })) (item ∷ []) 0) (sym last) (refl, omega arith)

  back_one : (item : T) (given back : List T) (a b c : Option (Returns T)) → GainsLast a back (length given) b → length back < length given → ComesBack b item c → GainsLast a (back ++ item ∷ []) (length given) c
  back_one item given back None None c first out last = last
  back_one item given back None (Some y) c first out last = absurd (let never : Some y ≡ None = first in cc)
  back_one item given back (Some x) None c first out last = absurd first
  back_one item given back (Some x) (Some y) c first out last =
      let more = last_then back (item ∷ []) (length given) 0 (Some x) (Some y) c first (from_out item y.lent y.back c (omega (arith, first.1, out)) last) in
      subst (λ (n : ℕ). GainsLast (Some x) (back ++ item ∷ []) n c) (let same : length given + 0 ≡ length given = omega arith in same) more

  front_more : (given : List T) (a b c : Option (List T)) → c ≡ b → LosesFront a given b → LosesFront a given c
  front_more given a b c same first = subst (LosesFront a given) (sym same) first

  pub passes_back : (given back : List T) (item : T) (a b c : Stock T) → Passes given back a b → length back < length given → Regains b item c → Passes given (back ++ item ∷ []) a c
  passes_back given back item a b c first out next = record {
    coming = front_more given a.coming b.coming c.coming next.coming first.coming;
    returns = back_one item given back a.returns b.returns c.returns first.returns out next.last;
  }

  -- one was handed out and came back
  pub passes_one : (item last : T) (a b c : Stock T) → Lends a item b → Regains b last c → Passes (item ∷ []) (last ∷ []) a c
  passes_one item last a b c lent regained = passes_back (item ∷ []) [] last a b c (passes_lent [] [] item a a b (passes_none a) lent) (omega arith) regained

  -- what passed stays so where nothing more changes
  pub passes_along : (given back : List T) (a b c : Stock T) → Passes given back a b → c ≡ b → Passes given back a c
  passes_along given back a b c first same = subst (Passes given back a) (sym same) first

  -- what was asked for one after the other
  asks_then : (names more : List (List ℕ)) (a b c : Stock T) → AsksFor names a b → AsksFor more b c → AsksFor (names ++ more) a c
  asks_then names more a b c first next = next ∙ (ap (λ asked. option_map (λ told. told ++ more) asked) first ∙ both_told a.asked)
    where
      both_told : (asked : Option (List (List ℕ))) → option_map (λ told. told ++ more) (option_map (λ told. told ++ names) asked) ≡ option_map (λ told. told ++ (names ++ more)) asked
      both_told None = refl
      both_told (Some told) = ap (λ names. Some names) (append_assoc told names more)

  -- The same of what is handed out under one name: none, one after the other, one more, one came back, one that came back, and nothing
  -- more.
  pub named_none : (name : List ℕ) (stock : Stock T) → PassesNamed name [] [] stock stock
  named_none name stock = record { passes = passes_none stock; asked = no_more stock.asked }

  pub named_then : (name : List ℕ) (given more back later : List T) (a b c : Stock T) → PassesNamed name given back a b → PassesNamed name more later b c → PassesNamed name (given ++ more) (back ++ later) a c
  named_then name given more back later a b c first next = record {
    passes = passes_then given more back later a b c first.passes next.passes;
    asked = subst (λ (names : List (List ℕ)). AsksFor names a c) (replicate-append-replicate (length given) (length more) name ∙ ap (λ n. replicate n name) (sym (length-append given more)))
        (asks_then (replicate (length given) name) (replicate (length more) name) a b c first.asked next.asked);
  }

  pub named_lent : (name : List ℕ) (given back : List T) (item : T) (a b c : Stock T) → PassesNamed name given back a b → LendsNamed name b item c → PassesNamed name (given ++ item ∷ []) back a c
  named_lent name given back item a b c first next = record {
    passes = passes_lent given back item a b c first.passes next.lends;
    asked = subst (λ (names : List (List ℕ)). AsksFor names a c) (replicate-append-replicate (length given) 1 name ∙ ap (λ n. replicate n name) (sym (length-append given (item ∷ []))))
        (asks_then (replicate (length given) name) (name ∷ []) a b c first.asked next.named);
  }

  pub named_back : (name : List ℕ) (given back : List T) (item : T) (a b c : Stock T) → PassesNamed name given back a b → length back < length given → Regains b item c
      → PassesNamed name given (back ++ item ∷ []) a c
  named_back name given back item a b c first out next = record { passes = passes_back given back item a b c first.passes out next; asked = next.asked ∙ first.asked }

  pub named_one : (name : List ℕ) (item last : T) (a b c : Stock T) → LendsNamed name a item b → Regains b last c → PassesNamed name (item ∷ []) (last ∷ []) a c
  named_one name item last a b c lent regained = named_back name (item ∷ []) [] last a b c (named_lent name [] [] item a a b (named_none name a) lent) (omega arith) regained

  pub named_along : (name : List ℕ) (given back : List T) (a b c : Stock T) → PassesNamed name given back a b → c ≡ b → PassesNamed name given back a c
  named_along name given back a b c first same = subst (PassesNamed name given back a) (sym same) first

-- what a host in memory does with its queues is told so
module _ {S T : Type 0} (see : S → T) where
  pub queue_regains : (old new : QueueView S) (item : S) → new ≡ after_return item old → Regains (stock_of see old) (see item) (stock_of see new)
  queue_regains old new item is = subst (λ (q : QueueView S). Regains (stock_of see old) (see item) (stock_of see q)) (sym is) (regained old.lent)
    where
      regained : (n : ℕ) → Regains (record { coming = Some (map see old.coming); returns = returns_of see old.back n; asked = None }) (see item) (stock_of see (return_to n item (record old { lent = n })))
      regained n = record { last = last_of n old.back; coming = coming_of n; asked = refl }
        where
          last_of : (n : ℕ) (back : Option (List S)) → ComesBack (returns_of see back n) (see item) (stock_of see (return_to n item (record old { back = back; lent = n }))).returns
          last_of zero None = refl
          last_of zero (Some items) = tt
          last_of (suc n) None = refl
          last_of (suc n) (Some items) = ap (λ l. Some (let r : Returns T = record { back = l; lent = n } in r)) (mapped items)
            where
              mapped : (items : List S) → map see (items ++ item ∷ []) ≡ map see items ++ see item ∷ []
              mapped [] = refl
              mapped (x ∷ xs) = ap (λ l. see x ∷ l) (mapped xs)

          coming_of : (n : ℕ) → (stock_of see (return_to n item (record old { lent = n }))).coming ≡ Some (map see old.coming)
          coming_of zero = refl
          coming_of (suc n) = refl

-- a text or a door that came back was counted, and then kept
pub takes_text : (before counted : MemoryHostView) (texts : QueueView MemorySourceView) (text : MemorySourceView) (faults : ℕ) → faults ≡ text.faults
    → counted ≡ record before { counts = record before.counts { texts = counted_once before.counts.texts faults } } → texts ≡ after_return text counted.texts
    → TakesBack (host_view before) (source_state text) (host_view (record counted { texts = texts }))
takes_text before counted texts text faults same is back = record {
  texts = queue_regains source_state before.texts texts text (back ∙ ap (λ (h : MemoryHostView). after_return text h.texts) is);
  others = ap (λ (h : MemoryHostView). host_view (record h { texts = texts })) (is ∙ ap (λ (n : ℕ). record before { counts = record before.counts { texts = counted_once before.counts.texts n } }) same);
}

pub takes_door : (before counted : MemoryHostView) (gates : QueueView MemoryDoorState) (door : MemoryDoorState) (faults : ℕ) → faults ≡ door.faults
    → counted ≡ record before { counts = record before.counts { doors = counted_once before.counts.doors faults } } → gates ≡ after_return door counted.gates
    → TakesBackDoor (host_view before) (gate_state door) (host_view (record counted { gates = gates }))
takes_door before counted gates door faults same is back = record {
  gates = queue_regains gate_state before.gates gates door (back ∙ ap (λ (h : MemoryHostView). after_return door h.gates) is);
  others = ap (λ (h : MemoryHostView). host_view (record h { gates = gates })) (is ∙ ap (λ (n : ℕ). record before { counts = record before.counts { doors = counted_once before.counts.doors n } }) same);
}
