-- From the built command to what its parse promises.
use Rattle.std.proofs.Common.{◌≡◌, ◌∙◌, ◌⊎◌, ℕ, true, List, [], Result, IfOk, inl, inr, sym, ap, subst, arith, codes, slice_index}
use Rattle.std.proofs.lemmas.Result.{IfOk-weaker}
use Rattle.clap.proofs.WalkLemmas.{first_value-rows}
use Rattle.clap.specs.Words.{App, FailsBy, Text, fault_of, first_of, first_value, found_of, is_simple, is_simple_and_free, matches_of, rows_of, HasMatchesOf}
use Rattle.clap.specs.declared.error.Error.{Error}
use Rattle.clap.specs.declared.parser.matches.ArgMatches.{ArgMatches}

-- the command that was built is the one that the words are specified by
pub value_is : (built app : App) (words : List Text) (id : Text) (r : Result ArgMatches Error) → built ≡ app → is_simple app ≡ true → IfOk r (HasMatchesOf built words)
    → IfOk r (λ m. first_value (found_of m) id ≡ first_of id (matches_of app words))
value_is built app words id r same simple h = IfOk-weaker r _ _ (λ m has.
    first_value-rows (found_of m) id ∙ ap (first_of id) ((has (ap is_simple same ∙ simple)).0 ∙ ap (λ (a : App). matches_of a words) same)) h

pub rows_are : (built app : App) (words : List Text) (r : Result ArgMatches Error) → built ≡ app → is_simple app ≡ true → IfOk r (HasMatchesOf built words)
    → IfOk r (λ m. rows_of (found_of m) ≡ matches_of app words)
rows_are built app words r same simple h = IfOk-weaker r _ _ (λ m has. (has (ap is_simple same ∙ simple)).0 ∙ ap (λ (a : App). matches_of a words) same) h

pub kinds_are : (built app : App) (words : List Text) (r : Result ArgMatches Error) → built ≡ app → is_simple_and_free app ≡ true
    → (is_simple_and_free built ≡ true → FailsBy (fault_of built words) r) → FailsBy (fault_of app words) r
kinds_are built app words r same free h = subst (λ (a : App). FailsBy (fault_of a words) r) same (h (ap is_simple_and_free same ∙ free))

-- FILE is neither empty nor one of clap's own names
pub own_name : (id : Text) → id ≡ codes "FILE" → (id ≡ [] → ⊥) × ((id ≡ codes "help") ⊎ (id ≡ codes "version") → ⊥)
own_name id is = (
  λ e. (let bad : ◌≡◌ {A = ℕ} 70 0 = ap (λ (t : Text). slice_index t 0) (sym is ∙ e) in absurd (omega arith)),
  λ auto. elim auto [
    | inl h ↦ let bad : ◌≡◌ {A = ℕ} 70 104 = ap (λ (t : Text). slice_index t 0) (sym is ∙ h) in absurd (omega arith)
    | inr h ↦ let bad : ◌≡◌ {A = ℕ} 70 118 = ap (λ (t : Text). slice_index t 0) (sym is ∙ h) in absurd (omega arith)
  ],
)
