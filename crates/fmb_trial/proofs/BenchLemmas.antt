-- Benches that are handed out and come back, one after the other.
use Rattle.std.proofs.Common.{◌≡◌, ◌<◌, ◌+◌, ℕ, zero, suc, List, [], ◌∷◌, ◌++◌, length, Option, None, Some, refl, sym, ap, subst, ◌∙◌, arith, append_assoc, append-nil, length-append}
use Rattle.medium_model.specs.State.{MediumState}
use Rattle.fmb_host.specs.Host.{HostView}
use Rattle.fmb_host.specs.Stocks.{ComesBack, ComesFrom, GainsLast, LendsNew, Regains, Returns, Stock, lends_one}
use Rattle.fmb_trial.specs.Benches.{PassesNew, SpendsBenches}

last_none : (told : Option (Returns MediumState)) → GainsLast told [] 0 told
last_none None = refl
last_none (Some r) = (sym (append-nil r.back), refl)

-- nothing was handed out, and nothing came back
pub passes_none : (stock : Stock MediumState) → PassesNew 0 [] stock stock
passes_none stock = record { coming = refl; returns = last_none stock.returns }

lent_one : (given : ℕ) (back : List MediumState) (a b c : Option (Returns MediumState)) → GainsLast a back given b → c ≡ lends_one b → GainsLast a back (suc given) c
lent_one given back None None c first is = is
lent_one given back None (Some y) c first is = absurd (let never : Some y ≡ None = first in cc)
lent_one given back (Some x) None c first is = absurd first
lent_one given back (Some x) (Some y) c first is = subst (GainsLast (Some x) back (suc given)) (sym is) (first.0, omega (arith, first.1))

-- one more was handed out
pub passes_lent : (given : ℕ) (back : List MediumState) (a b c : Stock MediumState) → PassesNew given back a b → LendsNew b c → PassesNew (suc given) back a c
passes_lent given back a b c first next = record {
  coming = next.coming ∙ first.coming;
  returns = lent_one given back a.returns b.returns c.returns first.returns next.returns;
}

-- one came back of those that are out
from_out : (item : MediumState) (given out : ℕ) (x : Returns MediumState) (back whole : List MediumState) (c : Option (Returns MediumState)) → whole ≡ x.back ++ back → out + length back ≡ x.lent + given
    → length back < given → ComesFrom out whole item c → GainsLast (Some x) (back ++ item ∷ []) given c
from_out item given zero x back whole c is count some last = absurd (omega (arith, count, some))
from_out item given (suc n) x back whole c is count some last = subst (GainsLast (Some x) (back ++ item ∷ []) given) (sym last)
    (ap (λ l. l ++ item ∷ []) is ∙ append_assoc x.back back (item ∷ []), omega (arith, count, length-append back (item ∷ [])))

back_one : (item : MediumState) (given : ℕ) (back : List MediumState) (a b c : Option (Returns MediumState)) → GainsLast a back given b → length back < given → ComesBack b item c
    → GainsLast a (back ++ item ∷ []) given c
back_one item given back None None c first some last = last
back_one item given back None (Some y) c first some last = absurd (let never : Some y ≡ None = first in cc)
back_one item given back (Some x) None c first some last = absurd first
back_one item given back (Some x) (Some y) c first some last = from_out item given y.lent x back y.back c first.0 first.1 some last

-- one more came back
pub passes_back : (given : ℕ) (back : List MediumState) (item : MediumState) (a b c : Stock MediumState) → PassesNew given back a b → length back < given → Regains b item c
    → PassesNew given (back ++ item ∷ []) a c
passes_back given back item a b c first some next = record {
  coming = next.coming ∙ first.coming;
  returns = back_one item given back a.returns b.returns c.returns first.returns some next.last;
}

-- some were handed out, and none came back
pub spent_lent : (given : ℕ) (before after : HostView) → PassesNew given [] before.benches after.benches → SpendsBenches before after
spent_lent given before after passes = record { given = given; back = []; among = omega arith; benches = passes }

-- none were handed out
pub spent_none : (before after : HostView) → after.benches ≡ before.benches → SpendsBenches before after
spent_none before after same = spent_lent 0 before after (subst (PassesNew 0 [] before.benches) (sym same) (passes_none before.benches))

-- only what is done with benches counts
pub spent_along : (a b c d : HostView) → b.benches ≡ a.benches → d.benches ≡ c.benches → SpendsBenches b c → SpendsBenches a d
spent_along a b c d first last spent = record {
  given = spent.given;
  back = spent.back;
  among = spent.among;
  benches = subst (λ s. PassesNew spent.given spent.back s d.benches) first (subst (PassesNew spent.given spent.back b.benches) (sym last) spent.benches);
}

-- benches alone changed, and then they did again
pub benches_then : (a b c : HostView) → b ≡ record a { benches = b.benches } → c ≡ record b { benches = c.benches } → c ≡ record a { benches = c.benches }
benches_then a b c first next = next ∙ ap (λ (h : HostView). record h { benches = c.benches }) first
