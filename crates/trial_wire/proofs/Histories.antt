-- What the lines say of the server, one line more.
use Rattle.std.proofs.Common.{◌≡◌, ◌⊎◌, ◌≤◌, ◌<◌, inl, inr, ℕ, ◌+◌, ◌*◌, List, [], ◌∷◌, ◌++◌, length, take, slice_get, Some, None, refl, sym, ◌∙◌, ap, subst, arith, length-append, take_all}
use Rattle.std.proofs.lemmas.Bool.{cases_lt}
use Rattle.std.proofs.lemmas.List.{get_or_append_left, get_or_at, take-append-le}
use Rattle.std.proofs.lemmas.List.Sums.{fold_push}
use Rattle.std.proofs.lemmas.Option.{slice_get-get_or, slice_get_within}
use Rattle.trial_model.specs.declared.outcome.ConnectionOutcome.{ConnectionOutcome}
use Rattle.trial_model.specs.declared.script.ScriptLine.{ScriptLine}
use Rattle.trial_model.specs.declared.script.Who.TheVariants as Who
use Rattle.trial_model.specs.Answers.{IsGift, MayFault, MustFault, fresh_frames}
use Rattle.trial_model.specs.Connections.{ServerHistory, connections_after, connections_of, given_by, server_after, server_of}
use Rattle.trial_model.specs.Cover.{IsBelow, cover_on}
use Rattle.trial_model.specs.Delivery.{frames_between, records_given}

pub server-push : (lines : List ScriptLine) (l : ScriptLine) → server_of (lines ++ l ∷ []) ≡ server_after (server_of lines) l
server-push lines l = fold_push server_after (record { lines = []; connections = []; fuse = None }) lines l

pub connections-push : (lines : List ScriptLine) (l : ScriptLine) → connections_of (lines ++ l ∷ []) ≡ connections_after (server_of lines) l
connections-push lines l = ap (λ (h : ServerHistory). h.connections) (server-push lines l)

-- The fronts of lines and one more.

take-front : (lines : List ScriptLine) (l : ScriptLine) (i : ℕ) → i ≤ length lines → take i (lines ++ l ∷ []) ≡ take i lines
take-front lines l i low = take-append-le i lines (l ∷ []) low

take-whole : (lines : List ScriptLine) (l : ScriptLine) → take (length lines + 1) (lines ++ l ∷ []) ≡ lines ++ l ∷ []
take-whole lines l = take_all (length lines + 1) (lines ++ l ∷ []) (omega (arith, length-append lines (l ∷ [])))

take-lines : (lines : List ScriptLine) (l : ScriptLine) → take (length lines) (lines ++ l ∷ []) ≡ lines
take-lines lines l = take-front lines l (length lines) (omega arith) ∙ take_all (length lines) lines (omega arith)

some-line : (a b : ScriptLine) → Some a ≡ Some b → a ≡ b
some-line a b e = cc

line-last : (lines : List ScriptLine) (l : ScriptLine) → slice_get (lines ++ l ∷ []) (length lines) ≡ Some l
line-last lines l = slice_get-get_or (lines ++ l ∷ []) (length lines) l (omega (arith, length-append lines (l ∷ []))) ∙ ap Some (get_or_at lines l [] l (length lines) refl)

line-old : (lines : List ScriptLine) (l line : ScriptLine) (i : ℕ) → i < length lines → slice_get (lines ++ l ∷ []) i ≡ slice_get lines i
line-old lines l line i low = slice_get-get_or (lines ++ l ∷ []) i l (omega (arith, length-append lines (l ∷ []))) ∙ (ap Some (get_or_append_left lines (l ∷ []) l i low) ∙ sym (slice_get-get_or lines i l low))

-- a line's place among one more
pub line-cases : (lines : List ScriptLine) (l line : ScriptLine) (i : ℕ) → slice_get (lines ++ l ∷ []) i ≡ Some line → ((i < length lines) × (slice_get lines i ≡ Some line)) ⊎ ((i ≡ length lines) × (l ≡ line))
line-cases lines l line i is = elim (cases_lt i (length lines)) as (λ _. ((i < length lines) × (slice_get lines i ≡ Some line)) ⊎ ((i ≡ length lines) × (l ≡ line))) [
  | inl low ↦ inl (low, sym (line-old lines l line i low) ∙ is)
  | inr high ↦
      let at : i ≡ length lines = omega (arith, slice_get_within (lines ++ l ∷ []) i line is, length-append lines (l ∷ [])) in
      inr (at, some-line l line (sym (line-last lines l) ∙ (ap (slice_get (lines ++ l ∷ [])) (sym at) ∙ is)))
]

module _ (lines : List ScriptLine) (l : ScriptLine) (n : ℕ) where
  pub gift-new : (sent : ℕ) → given_by lines n sent < given_by (lines ++ l ∷ []) n sent → IsGift (lines ++ l ∷ []) n sent (length lines) l
  gift-new sent g = record {
    is = line-last lines l;
    gave = subst (λ (z : List ScriptLine × List ScriptLine). given_by z.0 n sent < given_by z.1 n sent) (λ i. (sym (take-lines lines l) i, sym (take-whole lines l) i)) g;
  }

  old-fronts : (i : ℕ) → i < length lines → ◌≡◌ {A = List ScriptLine × List ScriptLine} (take i lines, take (i + 1) lines) (take i (lines ++ l ∷ []), take (i + 1) (lines ++ l ∷ []))
  old-fronts i low = λ k. (sym (take-front lines l i (omega arith)) k, sym (take-front lines l (i + 1) (omega arith)) k)

  pub gift-old : (sent i : ℕ) (line : ScriptLine) → IsGift lines n sent i line → IsGift (lines ++ l ∷ []) n sent i line
  gift-old sent i line g =
      let low = slice_get_within lines i line g.is in
      record {
        is = line-old lines l line i low ∙ g.is;
        gave = subst (λ (z : List ScriptLine × List ScriptLine). given_by z.0 n sent < given_by z.1 n sent) (old-fronts i low) g.gave;
      }

  pub may-old : (c : ConnectionOutcome) → MayFault lines n c → MayFault (lines ++ l ∷ []) n c
  may-old c (i, line, g, below) = (
    i,
    line,
    gift-old (length c.up) i line g,
    subst (λ (z : List ScriptLine × List ScriptLine). IsBelow (cover_on Who.Server (server_of z.0).fuse line) (4 * length (frames_between (given_by z.0 n (length c.up)) (given_by z.1 n (length c.up)) c.up)))
        (old-fronts i (slice_get_within lines i line g.is)) below,
  )

  pub may-new : (c : ConnectionOutcome) → given_by lines n (length c.up) < given_by (lines ++ l ∷ []) n (length c.up)
      → IsBelow (cover_on Who.Server (server_of lines).fuse l) (4 * length (frames_between (given_by lines n (length c.up)) (given_by (lines ++ l ∷ []) n (length c.up)) c.up))
      → MayFault (lines ++ l ∷ []) n c
  may-new c g below = (
    length lines,
    l,
    gift-new (length c.up) g,
    subst (λ (z : List ScriptLine × List ScriptLine). IsBelow (cover_on Who.Server (server_of z.0).fuse l) (4 * length (frames_between (given_by z.0 n (length c.up)) (given_by z.1 n (length c.up)) c.up)))
        (λ i. (sym (take-lines lines l) i, sym (take-whole lines l) i)) below,
  )

  -- what must fail of one line more: what must fail of the lines before, or a gift of this one
  pub must-cases : (logs : List ConnectionOutcome) (c : ConnectionOutcome) (i : ℕ) (line : ScriptLine) → MustFault (lines ++ l ∷ []) logs n c i line
      → ((i < length lines) × MustFault lines logs n c i line)
      ⊎ ((given_by lines n (length c.up) < given_by (lines ++ l ∷ []) n (length c.up)) × IsBelow (cover_on Who.Server (server_of lines).fuse l)
      (4 * fresh_frames (records_given c.imei (connections_of lines) logs) (frames_between (given_by lines n (length c.up)) (given_by (lines ++ l ∷ []) n (length c.up)) c.up)))
  must-cases logs c i line (g, below) = elim (line-cases lines l line i g.is) [
    | inl (low, is) ↦ inl (
      low,
      (
        record { is = is; gave = subst (λ (z : List ScriptLine × List ScriptLine). given_by z.0 n (length c.up) < given_by z.1 n (length c.up)) (sym (old-fronts i low)) g.gave },
        subst (λ (z : List ScriptLine × List ScriptLine). IsBelow (cover_on Who.Server (server_of z.0).fuse line) (4 * fresh_frames (records_given c.imei (connections_of z.0) logs) (frames_between (given_by z.0 n (length c.up)) (given_by z.1 n (length c.up)) c.up)))
            (sym (old-fronts i low)) below,
      ),
    )
    | inr (at, same) ↦
        let fronts : ◌≡◌ {A = List ScriptLine × List ScriptLine × ScriptLine} (take i (lines ++ l ∷ []), take (i + 1) (lines ++ l ∷ []), line) (lines, lines ++ l ∷ [], l) =
        (λ k. ((ap (λ m. take m (lines ++ l ∷ [])) at ∙ take-lines lines l) k, (ap (λ m. take (m + 1) (lines ++ l ∷ [])) at ∙ take-whole lines l) k, sym same k)) in
        inr (
          subst (λ (z : List ScriptLine × List ScriptLine × ScriptLine). given_by z.0 n (length c.up) < given_by z.1 n (length c.up)) fronts g.gave,
          subst (λ (z : List ScriptLine × List ScriptLine × ScriptLine). IsBelow (cover_on Who.Server (server_of z.0).fuse z.2) (4 * fresh_frames (records_given c.imei (connections_of z.0) logs) (frames_between (given_by z.0 n (length c.up)) (given_by z.1 n (length c.up)) c.up)))
              fronts below,
        )
  ]
