-- Lists that are made item by item.
use Rattle.std.proofs.Common.{◌≡◌, List, [], ◌∷◌, ◌++◌, map, sym, ◌∙◌, ap, append_assoc, append-nil}
use Rattle.std.proofs.lemmas.List.{map_push}
use Rattle.trial_model.specs.declared.outcome.DeviceOutcome.{DeviceOutcome}
use Rattle.trial_model.specs.Results.{Results}

pub first-rest : {A B : Type 0} (f : A → B) (done : List B) (rest all : List A) → done ≡ [] → rest ≡ all → done ++ map f rest ≡ map f all
first-rest f done rest all none same = ap (λ ys. ys ++ map f rest) none ∙ ap (map f) same

pub next-rest : {A B : Type 0} (f : A → B) (done new : List B) (x : A) (y : B) (before after all : List A) → new ≡ done ++ y ∷ [] → y ≡ f x → before ≡ x ∷ after
    → done ++ map f before ≡ map f all → new ++ map f after ≡ map f all
next-rest f done new x y before after all more is cut so_far =
    ap (λ ys. ys ++ map f after) more ∙ (append_assoc done (y ∷ []) (map f after) ∙ (ap (λ z. done ++ z ∷ map f after) is ∙ (ap (λ xs. done ++ map f xs) (sym cut) ∙ so_far)))

pub last-rest : {A B : Type 0} (f : A → B) (done : List B) (rest all : List A) → rest ≡ [] → done ++ map f rest ≡ map f all → done ≡ map f all
last-rest f done rest all none so_far = sym (append-nil done) ∙ (ap (λ xs. done ++ map f xs) (sym none) ∙ so_far)

pub map-none : {A B : Type 0} (f : A → B) (xs : List A) → xs ≡ [] → map f xs ≡ []
map-none f xs none = ap (map f) none

pub map-more : {A B : Type 0} (f : A → B) (xs new : List A) (y : A) → new ≡ xs ++ y ∷ [] → map f new ≡ map f xs ++ f y ∷ []
map-more f xs new y more = ap (map f) more ∙ map_push f xs y

-- One device more is in an outcome.

pub more-devices : (old new : Results) (d : DeviceOutcome) → new ≡ record old { devices = old.devices ++ d ∷ [] } → new.devices ≡ old.devices ++ d ∷ []
more-devices old new d is = ap (λ (o : Results). o.devices) is

pub no-connections : (old new : Results) (d : DeviceOutcome) → new ≡ record old { devices = old.devices ++ d ∷ [] } → old.connections ≡ [] → new.connections ≡ []
no-connections old new d is none = ap (λ (o : Results). o.connections) is ∙ none
