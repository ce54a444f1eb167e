-- What a capture that was read from a host comes to, by its status (this project's own).
use Rattle.std.specs.Prelude.{◌≡◌, ◌≢◌, ◌⊎◌, ◌+◌, ℕ, List, true, false, codes}
use Rattle.std.specs.Io.KnownBytes.{IsAtEnd}
use Rattle.fmb_host.specs.Host.{HostView}
use Rattle.fmb_show.specs.Shown.{shown, shown_front}
use Rattle.fmb_io.specs.Printed.{Prints, PrintsFront, PrintsWhole, SinkFailed, SinkSteady, and_no_memory}
use Rattle.fmb_io.specs.Text.{HasNext, IsReturned, OfOpened, OpensNothing}

-- A capture that a host opens by a name: 0 all that is shown of it was printed, 5 the sink failed on that, 3 it has a first fault,
-- 4 the text failed, 7 the host failed to open it, 9 memory ran out.
pub record RanShow (word : List ℕ) (status : ℕ) (before after : HostView) : Type 0 where
  pub among : (status ≡ 0) ⊎ (status ≡ 3) ⊎ (status ≡ 4) ⊎ (status ≡ 5) ⊎ (status ≡ 7) ⊎ (status ≡ 9)
  -- 0 and 5: it was read to its end and has no fault, and all or a front of what is shown of it was written
  pub shown_whole : status ≡ 0 → OfOpened word before after (λ text. ((shown text).faulty ≡ false) × PrintsWhole (shown text).text before after)
  pub sink_steady : status ≡ 0 → SinkSteady before after
  pub cut_off : status ≡ 5 → OfOpened word before after (λ text. ((shown text).faulty ≡ false) × PrintsFront (shown text).text before after)
  pub sink_cause : status ≡ 5 → SinkFailed before after
  -- 3: it has a first fault, whose line is the last that is shown
  pub faulty : status ≡ 3 → OfOpened word before after (λ text. ((shown text).faulty ≡ true) × Prints (shown text).text before after)
  -- 4 and 7: the text failed, or its opening; the host has counted that
  pub source_cause : status ≡ 4 → after.counts ≡ record before.counts { texts = before.counts.texts + 1 }
  pub source_line : status ≡ 4 → Prints (codes "source fault\n") before after
  pub host_cause : status ≡ 7 → after.counts ≡ record before.counts { host = before.counts.host + 1 }
  pub host_line : status ≡ 7 → Prints (codes "host fault\n") before after
  -- 9: the line that says so comes after what is shown of some first lines
  pub no_memory : status ≡ 9 → OfOpened word before after (λ text. (k : ℕ) × Prints (and_no_memory (shown_front k text)) before after)
  pub counts_before : status ≢ 4 → status ≢ 7 → after.counts ≡ before.counts
  pub kept_before : after.kept ≡ before.kept
  pub returned : status ≢ 7 → IsReturned (λ read. (status ≡ 0) ⊎ (status ≡ 5) → IsAtEnd read.left) before after
  pub nothing_opened : status ≡ 7 → OpensNothing before after

-- Where the host tells a capture with a first fault and counts no failure, that fault is shown, or memory runs out.
abbrev pub ShowRefuses : ℕ → HostView → HostView → Type 0
ShowRefuses status before after = (text : List ℕ) → HasNext text before → (shown text).faulty ≡ true → after.counts ≡ before.counts → (status ≡ 3) ⊎ (status ≡ 9)

-- Where it tells one without a fault, and neither its counts nor its sink's rose, that is shown, or memory runs out.
abbrev pub ShowShows : ℕ → HostView → HostView → Type 0
ShowShows status before after = (text : List ℕ) → HasNext text before → (shown text).faulty ≡ false
    → after.counts ≡ before.counts → (SinkFailed before after → ⊥) → (status ≡ 0) ⊎ (status ≡ 9)
