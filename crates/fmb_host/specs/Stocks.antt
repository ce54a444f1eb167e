-- Things of one kind that a host hands out and takes back, as contracts see them (this project's own).
use Rattle.std.specs.Prelude.{ℕ, zero, suc, ◌+◌, ◌≡◌, List, [], ◌∷◌, ◌++◌, length, replicate, Option, None, Some, option_map, ⊤}

-- those that came back, and how many are out
pub record Returns (T : Type 0) : Type 0 where
  pub back : List T
  pub lent : ℕ

-- those to come, those that came back, and the names under which things were handed out, in order, each where that is told
pub record Stock (T : Type 0) : Type 0 where
  pub coming : Option (List T)
  pub returns : Option (Returns T)
  pub asked : Option (List (List ℕ))

module _ {T : Type 0} where
  -- a told list begins with the item, and loses it
  abbrev pub LosesFirst : Option (List T) → T → Option (List T) → Type 0
  LosesFirst None item after = after ≡ None
  LosesFirst (Some items) item None = ⊥
  LosesFirst (Some items) item (Some rest) = items ≡ item ∷ rest

  -- one more is out, where that is told
  abbrev pub lends_one : Option (Returns T) → Option (Returns T)
  lends_one None = None
  lends_one (Some r) = Some (record r { lent = suc r.lent })

  -- A thing came back: it is the last of those that did, and one less is out. Who had handed out none need not keep it, nor tell what
  -- came back from then on.
  abbrev pub ComesFrom : ℕ → List T → T → Option (Returns T) → Type 0
  ComesFrom zero back item after = ⊤
  ComesFrom (suc n) back item after = after ≡ Some (record { back = back ++ item ∷ []; lent = n })

  abbrev pub ComesBack : Option (Returns T) → T → Option (Returns T) → Type 0
  ComesBack None item after = after ≡ None
  ComesBack (Some r) item after = ComesFrom r.lent r.back item after

  -- things were asked for under these names, in this order, where that is told
  abbrev pub AsksFor : List (List ℕ) → Stock T → Stock T → Type 0
  AsksFor names before after = after.asked ≡ option_map (λ told. told ++ names) before.asked

  -- one was handed out, the first of those to come where they are told
  pub record Lends (before : Stock T) (item : T) (after : Stock T) : Type 0 where
    pub first : LosesFirst before.coming item after.coming
    pub returns : after.returns ≡ lends_one before.returns

  -- and it was asked for under this name
  pub record LendsNamed (name : List ℕ) (before : Stock T) (item : T) (after : Stock T) : Type 0 where
    pub lends : Lends before item after
    pub named : AsksFor (name ∷ []) before after

  -- one was handed out that wasn't among those to come
  pub record LendsNew (before after : Stock T) : Type 0 where
    pub coming : after.coming ≡ before.coming
    pub returns : after.returns ≡ lends_one before.returns

  -- one came back
  pub record Regains (before : Stock T) (item : T) (after : Stock T) : Type 0 where
    pub last : ComesBack before.returns item after.returns
    pub coming : after.coming ≡ before.coming
    pub asked : after.asked ≡ before.asked

  -- a told list begins with these, and loses them
  abbrev pub LosesFront : Option (List T) → List T → Option (List T) → Type 0
  LosesFront None items after = after ≡ None
  LosesFront (Some before) items None = ⊥
  LosesFront (Some before) items (Some after) = before ≡ items ++ after

  -- these came back last, and N were handed out
  abbrev pub GainsLast : Option (Returns T) → List T → ℕ → Option (Returns T) → Type 0
  GainsLast None back given after = after ≡ None
  GainsLast (Some r) back given None = ⊥
  GainsLast (Some r) back given (Some s) = (s.back ≡ r.back ++ back) × (s.lent + length back ≡ r.lent + given)

  -- These were handed out, in this order, and these came back, in this order, where that is told.
  pub record Passes (given back : List T) (before after : Stock T) : Type 0 where
    pub coming : LosesFront before.coming given after.coming
    pub returns : GainsLast before.returns back (length given) after.returns

  -- and each was asked for under this name
  pub record PassesNamed (name : List ℕ) (given back : List T) (before after : Stock T) : Type 0 where
    pub passes : Passes given back before after
    pub asked : AsksFor (replicate (length given) name) before after
