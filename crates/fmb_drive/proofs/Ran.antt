-- What follows where the host tells what it will hand out, and counts no failure.
use Rattle.std.proofs.Common.{◌≡◌, ◌≢◌, ◌⊎◌, inl, inr, ◌+◌, ℕ, List, [], ◌∷◌, Option, Some, None, Ok, Err, sym, ap, subst, ◌∙◌, arith}
use Rattle.fmb_drive.specs.Drive.{HasFailed, IsDone, IsDrivable, IsFaulty, RanDrive, driven, failed, idle}
use Rattle.fmb_host.specs.Host.{HostView}
use Rattle.fmb_host.specs.Stocks.{LosesFirst, LosesFront, PassesNamed}
use Rattle.fmb_host.specs.declared.host.Counts.{Counts}
use Rattle.fmb_io.specs.Printed.{SinkFailed}
use Rattle.fmb_io.specs.Text.{HasNext, IsOpened, IsTextOf}
use Rattle.journey_script.specs.Drive.{drive_fault_in}
use Rattle.journey_script.specs.Grammar.{Refusal, script_of}
use Rattle.journey_script.specs.declared.fault.ScriptFault.{ScriptFault}
use Rattle.medium_model.specs.CallsLeft.{unlimited}
use Rattle.medium_model.specs.State.{MediumState}
use Rattle.text_streams.specs.States.{SourceState}
use Rattle.trial_model.specs.Script.{Script}

some_or_none : (o : Option (ℕ × ScriptFault)) (found : ℕ × ScriptFault) → o ≡ Some found → o ≡ None → ⊥
some_or_none o p is none = let both : Some p ≡ None = sym is ∙ none in cc

-- a text isn't both faulty and drivable
clash : (text : List ℕ) (line : ℕ) (kind : ScriptFault) (script : Script) → IsFaulty text line kind → IsDrivable text script → ⊥
clash text line kind script f d = by f.is
  where
    by : (script_of text ≡ Err (let r : Refusal = record { line = line; kind = kind } in r)) ⊎ ((other : Script) × (script_of text ≡ Ok other) × (drive_fault_in other ≡ Some (line, kind))) → ⊥
    by (inl e) = let never : Err (let r : Refusal = record { line = line; kind = kind } in r) ≡ Ok script = sym e ∙ d.is_script in cc
    by (inr (other, is, fault)) =
        let ok : Ok other ≡ Ok script = sym is ∙ d.is_script in
        let same : other ≡ script = cc in
        some_or_none (drive_fault_in script) (line, kind) (ap drive_fault_in (sym same) ∙ fault) d.no_fault

-- the text that was opened is the one that the host told
same_text : (word text opened : List ℕ) (before after : HostView) → HasNext text before → IsOpened word opened before after → text ≡ opened
same_text word text opened before after next o =
    let lost : LosesFirst (Some (next.source ∷ next.later)) o.source after.texts.coming = subst (λ c. LosesFirst c o.source after.texts.coming) next.texts o.next in
    let left : o.source.left ≡ Some text = ap (λ (s : SourceState). s.left) (sym (first next.source o.source next.later after.texts.coming lost)) ∙ next.told in
    subst (λ l. IsTextOf l opened) left o.bytes
  where
    first : (a b : SourceState) (rest : List SourceState) (after : Option (List SourceState)) → LosesFirst (Some (a ∷ rest)) b after → a ≡ b
    first a b rest None lost = absurd lost
    first a b rest (Some later) lost = cc

-- the script of a text that was done
script_in : (address flash : List ℕ) (text : List ℕ) (x y : HostView) → IsDone address flash text x y → (script : Script) × IsDrivable text script
script_in address flash text x y (idle script is none media wires sink) = (script, is)
script_in address flash text x y (driven script is p) = (script, is)

module _ (address flash word : List ℕ) (status : ℕ) (x y : HostView) (r : RanDrive address flash word status x y) where
  -- a count that is the same didn't rise
  not_four : y.counts ≡ x.counts → status ≡ 4 → ⊥
  not_four same e = let more : x.counts.texts ≡ x.counts.texts + 1 = ap (λ (k : Counts). k.texts) (sym same ∙ r.source_cause e) in omega (arith, more)

  not_six : y.counts ≡ x.counts → status ≡ 6 → ⊥
  not_six same e = let more : x.counts.media ≡ x.counts.media + 1 = ap (λ (k : Counts). k.media) (sym same ∙ r.medium_cause e) in omega (arith, more)

  not_seven : y.counts ≡ x.counts → status ≡ 7 → ⊥
  not_seven same e = let more : x.counts.host ≡ x.counts.host + 1 = ap (λ (k : Counts). k.host) (sym same) ∙ r.host_cause e in omega (arith, more)

  pub refused_then : (text : List ℕ) (line : ℕ) (kind : ScriptFault) → HasNext text x → IsFaulty text line kind → y.counts ≡ x.counts → (status ≡ 3) ⊎ (status ≡ 9)
  refused_then text line kind next faulty same = by r.among
    where
      never : (opened : List ℕ) (script : Script) → IsOpened word opened x y → IsDrivable opened script → ⊥
      never opened script o d = clash text line kind script faulty (subst (λ t. IsDrivable t script) (sym (same_text word text opened x y next o)) d)

      by : (status ≡ 0) ⊎ (status ≡ 3) ⊎ (status ≡ 4) ⊎ (status ≡ 5) ⊎ (status ≡ 6) ⊎ (status ≡ 7) ⊎ (status ≡ 8) ⊎ (status ≡ 9) → (status ≡ 3) ⊎ (status ≡ 9)
      by (inl e) = let d = r.done e in let s = script_in address flash d.0 x y d.2 in absurd (never d.0 s.0 d.1 s.1)
      by (inr (inl e)) = inl e
      by (inr (inr (inl e))) = absurd (not_four same e)
      by (inr (inr (inr (inl e)))) = let d = r.cut_off e in absurd (never d.0 d.2.0 d.1 d.2.1)
      by (inr (inr (inr (inr (inl e))))) = absurd (not_six same e)
      by (inr (inr (inr (inr (inr (inl e)))))) = absurd (not_seven same e)
      by (inr (inr (inr (inr (inr (inr (inl e))))))) = let d = r.refused_flash e in absurd (never d.0 d.2.0 d.1 d.2.1)
      by (inr (inr (inr (inr (inr (inr (inr e))))))) = inr e

  pub driven_then : (text : List ℕ) (script : Script) → HasNext text x → IsDrivable text script → y.counts ≡ x.counts → (SinkFailed x y → ⊥) → (status ≡ 0) ⊎ (status ≡ 8) ⊎ (status ≡ 9)
  driven_then text script next d same steady = by r.among
    where
      by : (status ≡ 0) ⊎ (status ≡ 3) ⊎ (status ≡ 4) ⊎ (status ≡ 5) ⊎ (status ≡ 6) ⊎ (status ≡ 7) ⊎ (status ≡ 8) ⊎ (status ≡ 9) → (status ≡ 0) ⊎ (status ≡ 8) ⊎ (status ≡ 9)
      by (inl e) = inl e
      by (inr (inl e)) = let p = r.refused e in absurd (clash p.0 p.2.line p.2.kind script p.2.is (subst (λ t. IsDrivable t script) (same_text word text p.0 x y next p.1) d))
      by (inr (inr (inl e))) = absurd (not_four same e)
      by (inr (inr (inr (inl e)))) = absurd (steady (r.sink_cause e))
      by (inr (inr (inr (inr (inl e))))) = absurd (not_six same e)
      by (inr (inr (inr (inr (inr (inl e)))))) = absurd (not_seven same e)
      by (inr (inr (inr (inr (inr (inr (inl e))))))) = inr (inl e)
      by (inr (inr (inr (inr (inr (inr (inr e))))))) = inr (inr e)

  pub spared_then : (medium : MediumState) (later : List MediumState) → x.media.coming ≡ Some (medium ∷ later) → medium.left ≡ unlimited → status ≢ 6
  spared_then medium later coming sound e = let p = r.medium_fault e in by p.2.2.given p.2.2.home p.2.2.holds.0 p.2.2.media
    where
      first : (f : MediumState) (rest : Option (List MediumState)) → LosesFront (Some (medium ∷ later)) (f ∷ []) rest → f ≡ medium
      first f None lost = absurd lost
      first f (Some rest) lost = let whole : medium ∷ later ≡ f ∷ rest = lost in cc

      by : (given home : List MediumState) → HasFailed given home → PassesNamed flash given home x.media y.media → ⊥
      by given home (failed f b rose may) p =
          let lost : LosesFront (Some (medium ∷ later)) (f ∷ []) y.media.coming = subst (λ c. LosesFront c (f ∷ []) y.media.coming) coming p.passes.coming in
          may (ap (λ (m : MediumState). m.left) (first f y.media.coming lost) ∙ sound)
