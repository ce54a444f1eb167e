-- A walk of clap over the words, one word at a time.
use Rattle.std.proofs.Common.{◌≡◌, Bool, false, List, [], ◌∷◌, Option, Some, None, cond, is_some, refl, ap, ap₂, ◌∙◌}
use Rattle.std.specs.List.{fold}
use Rattle.clap.specs.Walk.{Row, Text, Walk, finished, nothing_held, rows_after, walk, walk_from, walked}
use Rattle.clap.specs.Simple.{App, Shape, built, entered, matches_of, names_of}
use Rattle.clap.specs.Kinds.{Kinds, or_else}
use Rattle.clap.specs.Faults.{built_fault, check_fault, defaults_fault, entered_fault, fault_of, level_fault, settle_fault, turn_fault, walk_fault}
use Rattle.clap.specs.Walk.{Held, settled}

-- the kinds of the steps after the walk
abbrev pub end_fault : Shape → Held → Kinds
end_fault s h = or_else (settle_fault s.rules s.args_override_self h)
    (or_else (defaults_fault (settled s.rules h).rows s.rules)
    (check_fault s (finished s.rules h) false))

-- the kinds of the first step that fails, from a walk on
abbrev pub fault_from : Shape → Walk → List Text → Kinds
fault_from s w words = or_else (walk_fault s [] w words) (end_fault s (fold (walked s.rules []) w words).held)

-- the rows at the end
abbrev pub rows_from : Shape → Walk → List Text → List Row
rows_from s w words = finished s.rules (fold (walked s.rules []) w words).held

-- a word that passes
pub record Passes (s : Shape) (w : Walk) (word : Text) (w' : Walk) : Type 0 where
  pub fault : turn_fault s [] w word ≡ []
  pub after : walked s.rules [] w word ≡ w'

pub fault_step : (s : Shape) (w : Walk) (word : Text) (w' : Walk) (rest : List Text) → Passes s w word w' → fault_from s w (word ∷ rest) ≡ fault_from s w' rest
unfolding walk_fault
fault_step s w word w' rest p =
    ap₂ (λ (t : Kinds) (v : Walk). or_else (or_else t (walk_fault s [] v rest)) (end_fault s (fold (walked s.rules []) v rest).held)) p.fault p.after

pub rows_step : (s : Shape) (w : Walk) (word : Text) (w' : Walk) (rest : List Text) → Passes s w word w' → rows_from s w (word ∷ rest) ≡ rows_from s w' rest
rows_step s w word w' rest p = ap (λ (v : Walk). rows_from s v rest) p.after

-- a built command without subcommands
abbrev pub alone : Shape → App
alone s = record { top = s; subs = [] }

alone_fault : (s : Shape) (words : List Text) → built_fault (alone s) nothing_held words ≡ fault_from s (walk_from nothing_held) words
alone_fault s words = go (walk s.rules [] nothing_held words).stopped
  where
    go : (stop : Option (Text × List Text)) → level_fault s [] nothing_held words (is_some (entered (alone s) stop)) (entered_fault (alone s) stop)
        ≡ fault_from s (walk_from nothing_held) words
    go None = refl
    go (Some p) = refl

pub whole_fault : (a : App) (s : Shape) → built a ≡ alone s → a.top.no_binary_name ≡ false → (command : Text) (words : List Text)
    → fault_of a (command ∷ words) ≡ fault_from s (walk_from nothing_held) words
whole_fault a s is_built is_named command words =
    ap₂ (λ (b : App) (n : Bool). built_fault b nothing_held (cond n (command ∷ words) words)) is_built is_named ∙ alone_fault s words

pub whole_rows : (a : App) (s : Shape) → built a ≡ alone s → a.top.no_binary_name ≡ false → (command : Text) (words : List Text)
    → matches_of a (command ∷ words) ≡ rows_from s (walk_from nothing_held) words
whole_rows a s is_built is_named command words =
    ap₂ (λ (b : App) (n : Bool). rows_after b.top.rules (names_of b) (cond n (command ∷ words) words)) is_built is_named
