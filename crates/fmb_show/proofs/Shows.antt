-- What a printed capture comes to, line by line and at each end.
use Rattle.std.proofs.Common.{◌≡◌, ℕ, Bool, true, false, List, [], ◌∷◌, ◌++◌, Result, Ok, length, take, refl, sym, ap, ◌∙◌, subst, append_assoc, append-nil}
use Rattle.std.specs.Prelude.{codes}
use Rattle.std.proofs.Math.Seq.{take-append_seam}
use Rattle.text_streams.specs.States.{SinkState}
use Rattle.text_streams.specs.Writes.{HasFailed, IsSteady, Prints, PrintsFront, PrintsWhole}
use Rattle.capture_text.specs.Capture.{LineValue}
use Rattle.capture_text.specs.declared.fault.CaptureRefusal.{CaptureRefusal}
use Rattle.fmb_show.specs.Printing.{HasPrinted}
use Rattle.fmb_show.specs.Showed.{Showed}
use Rattle.fmb_show.specs.Shown.{Print, and_then, capture_print, front_print, line_print, lines_print, only}
use Rattle.fmb_show.specs.declared.capture.ShowEnd.TheVariants.{Done, Fault, SinkFault, NoMemory}
use Rattle.fmb_show.proofs.Printings.{line_printed}

module _ (capture : Result (List LineValue) CaptureRefusal) (before after : SinkState) where
  pub showed_done : (capture_print capture).faulty ≡ false → PrintsWhole (capture_print capture).text before after → IsSteady before after → Showed capture Done before after
  showed_done clean all steady = record {
    done = λ _. (clean, all);
    sink_steady = λ _. steady;
    fault = λ e. absurd (let never : Done ≡ Fault = e in cc);
    sink_fault = λ e. absurd (let never : Done ≡ SinkFault = e in cc);
    sink_cause = λ e. absurd (let never : Done ≡ SinkFault = e in cc);
    no_memory = λ e. absurd (let never : Done ≡ NoMemory = e in cc);
  }

  pub showed_fault : (capture_print capture).faulty ≡ true → Prints (capture_print capture).text before after → Showed capture Fault before after
  showed_fault faulty line = record {
    done = λ e. absurd (let never : Fault ≡ Done = e in cc);
    sink_steady = λ e. absurd (let never : Fault ≡ Done = e in cc);
    fault = λ _. (faulty, line);
    sink_fault = λ e. absurd (let never : Fault ≡ SinkFault = e in cc);
    sink_cause = λ e. absurd (let never : Fault ≡ SinkFault = e in cc);
    no_memory = λ e. absurd (let never : Fault ≡ NoMemory = e in cc);
  }

  pub showed_sink_fault : (capture_print capture).faulty ≡ false → PrintsFront (capture_print capture).text before after → HasFailed before after
      → Showed capture SinkFault before after
  showed_sink_fault clean front rose = record {
    done = λ e. absurd (let never : SinkFault ≡ Done = e in cc);
    sink_steady = λ e. absurd (let never : SinkFault ≡ Done = e in cc);
    fault = λ e. absurd (let never : SinkFault ≡ Fault = e in cc);
    sink_fault = λ _. (clean, front);
    sink_cause = λ _. rose;
    no_memory = λ e. absurd (let never : SinkFault ≡ NoMemory = e in cc);
  }

  pub showed_no_memory : (k : ℕ) → Prints (front_print k capture ++ codes "no memory\n") before after → Showed capture NoMemory before after
  showed_no_memory k line = record {
    done = λ e. absurd (let never : NoMemory ≡ Done = e in cc);
    sink_steady = λ e. absurd (let never : NoMemory ≡ Done = e in cc);
    fault = λ e. absurd (let never : NoMemory ≡ Fault = e in cc);
    sink_fault = λ e. absurd (let never : NoMemory ≡ SinkFault = e in cc);
    sink_cause = λ e. absurd (let never : NoMemory ≡ SinkFault = e in cc);
    no_memory = λ _. (k, line);
  }

-- Of a capture these lines are left. Those before had no fault, and all that is shown of them was printed.
pub record GoesOn (lines : List LineValue) (printed : List ℕ) (left : List LineValue) : Type 0 where
  pub past : List LineValue
  pub split : lines ≡ past ++ left
  pub text : printed ≡ (lines_print past).text
  pub clean : (lines_print past).faulty ≡ false

pub begins : (lines : List LineValue) → GoesOn lines [] lines
unfolding lines_print
begins lines = record { past = []; split = refl; text = refl; clean = refl }

-- a line without a fault
clean_then : (p q : Print) → p.faulty ≡ false → and_then p q ≡ record { text = p.text ++ q.text; faulty = q.faulty }
clean_then p q clean = rw clean refl

faulty_then : (p q : Print) → p.faulty ≡ true → and_then p q ≡ p
faulty_then p q faulty = rw faulty refl

abbrev print_of : List ℕ → Bool → Print
print_of text faulty = record { text = text; faulty = faulty }

then_by : (s t : List ℕ) (a b : Bool) (r : Print) → and_then (print_of s a) (and_then (print_of t b) r) ≡ and_then (and_then (print_of s a) (print_of t b)) r
then_by s t true b r = refl
then_by s t false true r = refl
then_by s t false false r = ap (λ x. print_of x r.faulty) (sym (append_assoc s t r.text))

then_assoc : (p q r : Print) → and_then p (and_then q r) ≡ and_then (and_then p q) r
then_assoc p q r = then_by p.text q.text p.faulty q.faulty r

-- some lines and then others
lines_then : (past left : List LineValue) → lines_print (past ++ left) ≡ and_then (lines_print past) (lines_print left)
unfolding lines_print
lines_then [] left = refl
lines_then (line ∷ past) left = ap (and_then (line_print line)) (lines_then past left) ∙ then_assoc (line_print line) (lines_print past) (lines_print left)

one_line : (line : LineValue) → (line_print line).faulty ≡ false → lines_print (line ∷ []) ≡ record { text = (line_print line).text ++ []; faulty = false }
unfolding lines_print
one_line line clean = clean_then (line_print line) (only []) clean

first_line : (line : LineValue) (lines : List LineValue) → lines_print (line ∷ lines) ≡ and_then (line_print line) (lines_print lines)
unfolding lines_print
first_line line lines = refl

-- what is left decides
whole_is : (lines left : List LineValue) (printed : List ℕ) → GoesOn lines printed left
    → lines_print lines ≡ record { text = printed ++ (lines_print left).text; faulty = (lines_print left).faulty }
whole_is lines left printed g =
    ap lines_print g.split ∙ lines_then g.past left ∙ clean_then (lines_print g.past) (lines_print left) g.clean
    ∙ ap (λ t. record { text = t ++ (lines_print left).text; faulty = (lines_print left).faulty }) (sym g.text)

pub goes_on : (lines : List LineValue) (printed text : List ℕ) (left rest : List LineValue) (line : LineValue) → GoesOn lines printed left → left ≡ line ∷ rest
    → text ≡ (line_print line).text → (line_print line).faulty ≡ false → GoesOn lines (printed ++ text) rest
goes_on lines printed text left rest line g left_is text_is clean =
    let both : lines_print (g.past ++ line ∷ []) ≡ record { text = (lines_print g.past).text ++ ((line_print line).text ++ []); faulty = false } =
    lines_then g.past (line ∷ []) ∙ ap (and_then (lines_print g.past)) (one_line line clean)
    ∙ clean_then (lines_print g.past) (record { text = (line_print line).text ++ []; faulty = false }) g.clean in
    record {
      past = g.past ++ line ∷ [];
      split = g.split ∙ ap (λ l. g.past ++ l) left_is ∙ sym (append_assoc g.past (line ∷ []) rest);
      text = ap (λ t. t ++ text) g.text ∙ ap (λ t. (lines_print g.past).text ++ t) (text_is ∙ sym (append-nil (line_print line).text)) ∙ sym (ap (λ (p : Print). p.text) both);
      clean = ap (λ (p : Print). p.faulty) both;
    }

-- a line that a fault ends
pub ends_here : (lines : List LineValue) (printed text : List ℕ) (left rest : List LineValue) (line : LineValue) → GoesOn lines printed left → left ≡ line ∷ rest
    → text ≡ (line_print line).text → (line_print line).faulty ≡ true → ((lines_print lines).text ≡ printed ++ text) × ((lines_print lines).faulty ≡ true)
ends_here lines printed text left rest line g left_is text_is faulty =
    let one : lines_print left ≡ line_print line = ap lines_print left_is ∙ first_line line rest ∙ faulty_then (line_print line) (lines_print rest) faulty in
    let whole = whole_is lines left printed g in (
      ap (λ (p : Print). p.text) whole ∙ ap (λ (p : Print). printed ++ p.text) one ∙ ap (λ t. printed ++ t) (sym text_is),
      ap (λ (p : Print). p.faulty) whole ∙ ap (λ (p : Print). p.faulty) one ∙ faulty,
    )

-- no line is left
pub ends_clean : (lines : List LineValue) (printed : List ℕ) (left : List LineValue) → GoesOn lines printed left → left ≡ []
    → ((lines_print lines).text ≡ printed) × ((lines_print lines).faulty ≡ false)
unfolding lines_print
ends_clean lines printed left g none =
    let whole = whole_is lines left printed g in (
      ap (λ (p : Print). p.text) whole ∙ ap (λ l. printed ++ (lines_print l).text) none ∙ append-nil printed,
      ap (λ (p : Print). p.faulty) whole ∙ ap (λ l. (lines_print l).faulty) none,
    )

module _ (lines : List LineValue) (printed : List ℕ) (before after : SinkState) where
  -- memory ran out after what was printed
  pub gave_up : (left : List LineValue) → GoesOn lines printed left → Prints (printed ++ codes "no memory\n") before after → Showed (Ok lines) NoMemory before after
  gave_up left g line =
      let past_is : take (length g.past) lines ≡ g.past = ap (take (length g.past)) g.split ∙ take-append_seam g.past left in
      let front : printed ≡ (lines_print (take (length g.past) lines)).text = g.text ∙ sym (ap (λ l. (lines_print l).text) past_is) in
      showed_no_memory (Ok lines) before after (length g.past) (subst (λ t. Prints (t ++ codes "no memory\n") before after) front line)

  pub all_done : (left : List LineValue) → GoesOn lines printed left → left ≡ [] → HasPrinted before after false printed → Showed (Ok lines) Done before after
  all_done left g none has =
      let e = ends_clean lines printed left g none in
      showed_done (Ok lines) before after e.1 (subst (λ t. PrintsWhole t before after) (sym e.0) (has.whole refl)) (has.steady refl)

  pub all_but_the_sink : (left : List LineValue) → GoesOn lines printed left → left ≡ [] → HasPrinted before after true printed → Showed (Ok lines) SinkFault before after
  all_but_the_sink left g none has =
      let e = ends_clean lines printed left g none in
      showed_sink_fault (Ok lines) before after e.1 (subst (λ t. PrintsFront t before after) (sym e.0) has.front) (has.rose refl)

pub ended : (capture : Result (List LineValue) CaptureRefusal) (printed : List ℕ) (before after : SinkState) (failed : Bool)
    → (capture_print capture).text ≡ printed → (capture_print capture).faulty ≡ true → HasPrinted before after failed printed → Showed capture Fault before after
ended capture printed before after failed text faulty has =
    showed_fault capture before after faulty (subst (λ t. Prints t before after) (sym text) (line_printed before after failed printed has))
