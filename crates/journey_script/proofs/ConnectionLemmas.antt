-- The connections that lines make, and the numbers of those that are half-open.
use Rattle.std.proofs.Common.{◌≡◌, ◌==◌, ◌+◌, ◌-◌, ℕ, suc, ◌<◌, ◌≤◌, Bool, true, false, cond, not, List, [], ◌∷◌, ◌++◌, map, filter, length, Option, Some, None, refl, sym, ap, ◌∙◌, arith, if◌then◌else◌}
use Rattle.std.specs.Prelude.{count_by, is_some}
use Rattle.std.proofs.lemmas.List.{length-map}
use Rattle.std.proofs.lemmas.List.Folds.{fold_along}
use Rattle.std.proofs.lemmas.List.Sums.{fold-append, length-filter, sum_by-append}
use Rattle.std.proofs.lemmas.Bool.{eqb-true}
use Rattle.std.proofs.lemmas.Bool.Decides.{nat_tests}
use Rattle.trial_model.specs.Connections.{ConnectionHistory, ServerHistory, at_number, closed, connections_after, connections_of, if_covered, restarted, server_after, plus, server_of, with_more}
use Rattle.trial_model.specs.Cover.{fuse_after, fuse_of}
use Rattle.trial_model.specs.Script.{Opening, opening_of}
use Rattle.trial_model.specs.declared.script.ScriptLine.{ScriptLine}
use Rattle.trial_model.specs.declared.script.Who.TheVariants as Who
use Rattle.journey_script.specs.declared.connections.Connections.{Connections}
use Rattle.journey_script.specs.Standing.{KnowsConnections, open_after, open_from}

-- one line more
pub connections_push : (lines : List ScriptLine) (line : ScriptLine) → connections_of (lines ++ line ∷ []) ≡ connections_after (server_of lines) line
connections_push lines line = ap (λ (h : ServerHistory). h.connections) (fold-append server_after (record { lines = []; connections = []; fuse = None }) lines (line ∷ []))

pub fuse_push : (lines : List ScriptLine) (line : ScriptLine) → fuse_of Who.Server (lines ++ line ∷ []) ≡ fuse_after Who.Server (fuse_of Who.Server lines) line
fuse_push lines line = fold-append (fuse_after Who.Server) None lines (line ∷ [])

-- the server's fuse among its history
pub server_fuse : (lines : List ScriptLine) → (server_of lines).fuse ≡ fuse_of Who.Server lines
server_fuse lines = fold_along server_after (fuse_after Who.Server) (λ (h : ServerHistory) (f : Option ℕ). h.fuse ≡ f)
    (λ h f line e. ap (λ (o : Option ℕ). fuse_after Who.Server o line) e) (record { lines = []; connections = []; fuse = None }) None lines refl

-- the numbers of half-open connections
pushed : (b d : Bool) (n k : ℕ) (xs : List ℕ) → (if d then n ∷ (if b then xs ++ k ∷ [] else xs) else (if b then xs ++ k ∷ [] else xs))
    ≡ (if b then (if d then n ∷ xs else xs) ++ k ∷ [] else (if d then n ∷ xs else xs))
pushed true true n k xs = refl
pushed true false n k xs = refl
pushed false true n k xs = refl
pushed false false n k xs = refl

pub open_append : (n k : ℕ) (cs : List ConnectionHistory) (c : ConnectionHistory) → k ≡ n + length cs
    → open_from n (cs ++ c ∷ []) ≡ (if c.half_open then open_from n cs ++ k ∷ [] else open_from n cs)
open_append n k [] c e = let same : n ≡ k = omega arith in ap (λ (m : ℕ). if c.half_open then m ∷ [] else []) same
open_append n k (d ∷ cs) c e =
    ap (λ (ys : List ℕ). if d.half_open then n ∷ ys else ys) (open_append (n + 1) k cs c (omega arith)) ∙ pushed c.half_open d.half_open n k (open_from (n + 1) cs)

restarted_by : (b : Bool) (c : ConnectionHistory) → c.half_open ≡ b → (if b then record c { half_open = false; restarted = true } else c).half_open ≡ false
restarted_by true c e = refl
restarted_by false c e = e

restarted_closed : (c : ConnectionHistory) → (restarted c).half_open ≡ false
restarted_closed c = restarted_by c.half_open c refl

pub open_restarted : (n : ℕ) (cs : List ConnectionHistory) → open_from n (map restarted cs) ≡ []
open_restarted n [] = refl
open_restarted n (c ∷ cs) =
    let rest = open_from (n + 1) (map restarted cs) in
    ap (λ (b : Bool). if b then n ∷ rest else rest) (restarted_closed c) ∙ open_restarted (n + 1) cs

pub open_covered : (fuse : Option ℕ) (n : ℕ) (cs : List ConnectionHistory) → open_from n (if_covered fuse cs) ≡ (if is_some fuse then [] else open_from n cs)
open_covered None n cs = refl
open_covered (Some k) n cs = open_restarted n cs

pub length-covered : (fuse : Option ℕ) (cs : List ConnectionHistory) → length (if_covered fuse cs) ≡ length cs
length-covered None cs = refl
length-covered (Some k) cs = length-map cs restarted

abbrev others : ℕ → List ℕ → List ℕ
others n xs = filter (λ j. not (j == n)) xs

-- a number in front that isn't this one stays
kept : (n t : ℕ) (xs ys : List ℕ) (b : Bool) → (n == t) ≡ false → xs ≡ others t ys → (if b then n ∷ xs else xs) ≡ others t (if b then n ∷ ys else ys)
kept n t xs ys true apart e = rw apart (ap (λ (zs : List ℕ). n ∷ zs) e)
kept n t xs ys false apart e = e

-- this one in front goes
gone : (n t : ℕ) (ys : List ℕ) (b : Bool) → (n == t) ≡ true → ys ≡ others t ys → ys ≡ others t (if b then n ∷ ys else ys)
gone n t ys true same e = rw same e
gone n t ys false same e = e

-- all above
above : (n m : ℕ) (cs : List ConnectionHistory) → n < m → open_from m cs ≡ others n (open_from m cs)
above n m [] h = refl
above n m (c ∷ cs) h =
    let apart : (m == n) ≡ false = grind (arith, nat_tests) in
    kept m n (open_from (m + 1) cs) (open_from (m + 1) cs) c.half_open apart (above n (m + 1) cs (omega arith))

-- what one connection's change leaves of the numbers
changed : (change : ConnectionHistory → ConnectionHistory) (n k t : ℕ) (cs : List ConnectionHistory) → ((c : ConnectionHistory) → (change c).half_open ≡ false) → 1 ≤ k → t + 1 ≡ n + k
    → open_from n (at_number change k cs) ≡ others t (open_from n cs)
changed change n k t [] off some at = refl
changed change n k t (c ∷ cs) off some at = by (k == 1) refl (λ more end. changed change (n + 1) (k - 1) t cs off more end)
  where
    by : (first : Bool) → (k == 1) ≡ first → (1 ≤ k - 1 → t + 1 ≡ n + 1 + (k - 1) → open_from (n + 1) (at_number change (k - 1) cs) ≡ others t (open_from (n + 1) cs))
        → open_from n (if first then change c ∷ cs else c ∷ at_number change (k - 1) cs) ≡ others t (open_from n (c ∷ cs))
    by true e rest =
        let one : k ≡ 1 = eqb-true k 1 e in
        let same : (n == t) ≡ true = grind (arith, nat_tests) in
        ap (λ (b : Bool). if b then n ∷ open_from (n + 1) cs else open_from (n + 1) cs) (off c)
        ∙ gone n t (open_from (n + 1) cs) c.half_open same (above t (n + 1) cs (omega arith))
    by false e rest =
        let more : 2 ≤ k = grind (arith, nat_tests) in
        let apart : (n == t) ≡ false = grind (arith, nat_tests) in
        kept n t (open_from (n + 1) (at_number change (k - 1) cs)) (open_from (n + 1) cs) c.half_open apart (rest (omega arith) (omega arith))

pub open_closed : (k : ℕ) (cs : List ConnectionHistory) → 1 ≤ k → open_from 1 (at_number closed k cs) ≡ filter (λ j. not (j == k)) (open_from 1 cs)
open_closed k cs some = changed closed 1 k k cs (λ c. refl) some (omega arith)

more_as : (n : Option ℕ) (b : Bool) (c : ConnectionHistory) → c.half_open ≡ b → (if b then record c { allowed = plus c.allowed n } else c).half_open ≡ b
more_as n true c e = e
more_as n false c e = e

pub open_more : (bytes : Option ℕ) (n k : ℕ) (cs : List ConnectionHistory) → open_from n (at_number (with_more bytes) k cs) ≡ open_from n cs
open_more bytes n k [] = refl
open_more bytes n k (c ∷ cs) = by (k == 1) (open_more bytes (n + 1) (k - 1) cs)
  where
    by : (first : Bool) → open_from (n + 1) (at_number (with_more bytes) (k - 1) cs) ≡ open_from (n + 1) cs → open_from n (if first then with_more bytes c ∷ cs else c ∷ at_number (with_more bytes) (k - 1) cs) ≡ open_from n (c ∷ cs)
    by true rest = ap (λ (b : Bool). if b then n ∷ open_from (n + 1) cs else open_from (n + 1) cs) (more_as bytes c.half_open c refl)
    by false rest = ap (λ (ys : List ℕ). if c.half_open then n ∷ ys else ys) rest

pub length-at_number : (change : ConnectionHistory → ConnectionHistory) (k : ℕ) (cs : List ConnectionHistory) → length (at_number change k cs) ≡ length cs
length-at_number change k [] = refl
length-at_number change k (c ∷ cs) = by (k == 1) (length-at_number change (k - 1) cs)
  where
    by : (b : Bool) → length (at_number change (k - 1) cs) ≡ length cs → length (if b then change c ∷ cs else c ∷ at_number change (k - 1) cs) ≡ suc (length cs)
    by true rest = refl
    by false rest = ap suc rest

-- how many they are
passing : (n : ℕ) (cs : List ConnectionHistory) → length (filter (λ (c : ConnectionHistory). c.half_open) cs) ≡ length (open_from n cs)
passing n [] = refl
passing n (c ∷ cs) = by c.half_open (passing (n + 1) cs)
  where
    by : (b : Bool) → length (filter (λ (c : ConnectionHistory). c.half_open) cs) ≡ length (open_from (n + 1) cs)
        → length (cond b (c ∷ filter (λ (c : ConnectionHistory). c.half_open) cs) (filter (λ (c : ConnectionHistory). c.half_open) cs))
        ≡ length (if b then n ∷ open_from (n + 1) cs else open_from (n + 1) cs)
    by true e = ap suc e
    by false e = e

pub open_length : (n : ℕ) (cs : List ConnectionHistory) → count_by (λ (c : ConnectionHistory). c.half_open) cs ≡ length (open_from n cs)
open_length n cs = sym (length-filter (λ (c : ConnectionHistory). c.half_open) cs) ∙ passing n cs

-- one more of a list, counted
pub count_push : {X : Type 0} (p : X → Bool) (xs : List X) (x : X) → count_by p (xs ++ x ∷ []) ≡ count_by p xs + cond (p x) 1 0
count_push p xs x = omega (arith, sum_by-append (λ (y : _). cond (p y) 1 0) xs (x ∷ []))

-- how many connections a line makes
abbrev pub made_by : Option Opening → ℕ
made_by opening = cond (is_some opening) 1 0

-- what is kept of the connections after one line more
pub knows_connections : (old new : Connections) (lines : List ScriptLine) (line : ScriptLine) → KnowsConnections old lines
    → new.count ≡ old.count + made_by (opening_of line)
    → length (connections_after (server_of lines) line) ≡ length (connections_of lines) + made_by (opening_of line)
    → new.half_open.items ≡ open_from 1 (connections_after (server_of lines) line) → new.armed ≡ is_some (fuse_after Who.Server (fuse_of Who.Server lines) line)
    → KnowsConnections new (lines ++ line ∷ [])
knows_connections old new lines line known count made half_open armed =
    let more = count_push (λ (l : ScriptLine). is_some (opening_of l)) lines line in
    let connections = connections_push lines line in
    record {
      count = omega (arith, known.count, more);
      made = ap (λ (cs : List ConnectionHistory). length cs) connections ∙ omega (arith, known.made, more);
      half_open = half_open ∙ ap (λ (cs : List ConnectionHistory). open_from 1 cs) (sym connections);
      armed = armed ∙ ap (λ (f : Option ℕ). is_some f) (sym (fuse_push lines line));
    }

-- a line that changes nothing of them
pub untouched : (cs : Connections) (lines : List ScriptLine) (line : ScriptLine) → KnowsConnections cs lines → opening_of line ≡ None
    → connections_after (server_of lines) line ≡ connections_of lines → fuse_after Who.Server (fuse_of Who.Server lines) line ≡ fuse_of Who.Server lines
    → KnowsConnections cs (lines ++ line ∷ [])
untouched cs lines line known none same fuse =
    let no : made_by (opening_of line) ≡ 0 = ap made_by none in
    knows_connections cs cs lines line known (omega (arith, no)) (ap (λ (cs : List ConnectionHistory). length cs) same ∙ omega (arith, no))
    (known.half_open ∙ ap (λ (cs : List ConnectionHistory). open_from 1 cs) (sym same)) (known.armed ∙ ap (λ (f : Option ℕ). is_some f) (sym fuse))

-- the numbers after a line that the server's fuse can cover, where its connection is put last
pub open_rounded : (lines : List ScriptLine) (c : ConnectionHistory) (count : ℕ) (armed : Bool) (half_open : List ℕ) → count ≡ length (connections_of lines)
    → armed ≡ is_some (fuse_of Who.Server lines) → half_open ≡ open_from 1 (connections_of lines)
    → open_from 1 (if_covered (server_of lines).fuse (connections_of lines ++ c ∷ [])) ≡ open_after armed c.half_open count half_open
open_rounded lines c count armed half_open made fuse is =
    let fused : is_some (server_of lines).fuse ≡ armed = ap (λ (o : Option ℕ). is_some o) (server_fuse lines) ∙ sym fuse in
    let appended = open_append 1 (count + 1) (connections_of lines) c (omega (arith, made)) in
    open_covered (server_of lines).fuse 1 (connections_of lines ++ c ∷ []) ∙ ap (λ (b : Bool). if b then [] else open_from 1 (connections_of lines ++ c ∷ [])) fused
    ∙ ap (λ (xs : List ℕ). if armed then [] else xs) (appended ∙ ap (λ (xs : List ℕ). if c.half_open then xs ++ (count + 1) ∷ [] else xs) (sym is))
