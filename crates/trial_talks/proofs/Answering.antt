-- What a session wrote answers the device rightly; and what the device's end says of the bytes that it heard.
use Rattle.std.proofs.Common.{◌≡◌, ◌≤◌, inl, inr, ℕ, ◌+◌, ◌-◌, ◌*◌, ◌/◌, nat_le, Bool, true, false, List, [], ◌∷◌, ◌++◌, length, take, drop, Result, Ok, Err, refl, sym, ◌∙◌, ap, arith, append_assoc, length-append, length-take, length-take-le, leb-true}
use Rattle.std.proofs.lemmas.Bool.{cases_lt}
use Rattle.std.proofs.lemmas.List.{take-append-drop}
use Rattle.avl_values.specs.declared.errors.MediumFault.{MediumFault}
use Rattle.tracker_session.specs.Sending.{AreSentBodies, stream_up}
use Rattle.tracker_session.specs.Talks.{AreRightAnswers, IsRightEnd, counts_by, records_by}
use Rattle.tracker_session.specs.Talks as talks
use Rattle.tracker_session.specs.declared.round_end.RoundEnd.{RoundEnd}
use Rattle.tracker_session.specs.declared.round_end.RoundEnd.TheVariants as end
use Rattle.trial_model.specs.declared.outcome.ConnectionOutcome.{ConnectionOutcome}
use Rattle.trial_model.specs.Answers.{counted_of}
use Rattle.trial_model.specs.Delivery.{heard_bytes}
use Rattle.trial_model.specs.Frames.{Frame, counts_of, frames_of, login_size}
use Rattle.trial_wire.specs.Connections.{IsHeard}
use Rattle.trial_wire.proofs.Hearing.{counts-append}
use Rattle.trial_wire.proofs.Logs.{counted-first, counts-length}
use Rattle.trial_talks.proofs.Bodies.{counts-size, frames-counts, frames-length, frames-sent}

-- the first bytes of a list that begins with another
begins-more : (n : ℕ) (down more all : List ℕ) → down ++ more ≡ all → take n down ++ (drop n down ++ more) ≡ all
begins-more n down more all is = sym (append_assoc (take n down) (drop n down) more) ∙ (ap (λ (l : List ℕ). l ++ more) (take-append-drop n down) ∙ is)

-- the own counts of all bodies begin with those of the first frames
counts-begin : (k : ℕ) (fs : List Frame) → counts_of (take k fs) ++ counts_of (drop k fs) ≡ counts_of fs
counts-begin k fs = sym (counts-append (take k fs) (drop k fs)) ∙ ap counts_of (take-append-drop k fs)

module _ (known : Bool) (bodies : List (List ℕ)) (are : AreSentBodies bodies) (c : ConnectionOutcome) (up_is : c.up ≡ stream_up c.imei bodies) (heard : IsHeard known c) where
  all-counts : counts_of (frames_of c.up) ≡ counts_by bodies
  all-counts = ap (λ u. counts_of (frames_of u)) up_is ∙ (ap counts_of (frames-sent c.imei bodies are) ∙ frames-counts login_size bodies)

  -- what was heard are right answers
  pub right-heard : AreRightAnswers (heard_bytes c) bodies
  right-heard = elim (cases_lt c.up_given login_size) as (λ _. AreRightAnswers (heard_bytes c) bodies) [
    | inl short ↦ talks.counts (drop c.down_given c.down ++ 1 ∷ counts_by bodies) (begins-more c.down_given c.down (1 ∷ counts_by bodies) (1 ∷ counts_by bodies) (ap (λ (l : List ℕ). l ++ 1 ∷ counts_by bodies) (heard.without_login short)))
    | inr long ↦ by known refl long
  ]
    where
      by : (k : Bool) → known ≡ k → login_size ≤ c.up_given → AreRightAnswers (heard_bytes c) bodies
      by true is long =
          let k = length (counted_of c) in
          let more = counts_of (drop k (frames_of c.up)) in
          let whole : c.down ++ more ≡ 1 ∷ counts_by bodies =
          ap (λ (l : List ℕ). l ++ more) (heard.counts long is)
          ∙ (ap (λ (fs : List Frame). (1 ∷ counts_of fs) ++ more) (counted-first c) ∙ (ap (λ (l : List ℕ). 1 ∷ l) (counts-begin k (frames_of c.up)) ∙ ap (λ (l : List ℕ). 1 ∷ l) all-counts)) in
          talks.counts (drop c.down_given c.down ++ more) (begins-more c.down_given c.down more (1 ∷ counts_by bodies) whole)
      by false is long = talks.refuses (drop c.down_given c.down ++ []) (begins-more c.down_given c.down [] (0 ∷ []) (ap (λ (l : List ℕ). l ++ []) (heard.stranger long is).0))

  -- no more was written than the answer and a count for each
  pub down-most : length c.down ≤ 1 + 4 * length bodies
  down-most = elim (cases_lt c.up_given login_size) as (λ _. length c.down ≤ 1 + 4 * length bodies) [
    | inl short ↦ omega (arith, ap length (heard.without_login short))
    | inr long ↦ by known refl long
  ]
    where
      frames-size : length (frames_of c.up) ≡ length bodies
      frames-size = ap (λ u. length (frames_of u)) up_is ∙ (ap length (frames-sent c.imei bodies are) ∙ frames-length login_size bodies)

      by : (k : Bool) → known ≡ k → login_size ≤ c.up_given → length c.down ≤ 1 + 4 * length bodies
      by true is long =
          let size : length c.down ≡ 1 + 4 * length (counted_of c) = ap length (heard.counts long is) ∙ (let q = counts-length (counted_of c) in omega arith) in
          let few = ap length (counted-first c) ∙ length-take (length (counted_of c)) (frames_of c.up) in
          omega (arith, size, few, frames-size)
      by false is long = omega (arith, ap length (heard.stranger long is).0)

-- What an end over right answers says of the bytes taken, the batches and how many were counted.

-- how many counts were heard, by the bytes
pub right-count : (result : Result RoundEnd MediumFault) (taken : List ℕ) (bodies : List (List ℕ)) (heard : ℕ) → IsRightEnd result taken bodies heard → (length taken - 1) / 4 ≡ heard
right-count (Ok (end.Done n)) taken bodies heard e = omega (arith, ap length e.0, counts-size bodies, e.1)
right-count (Ok end.Empty) taken bodies heard e = absurd e
right-count (Ok end.Refused) taken bodies heard e = omega (arith, ap length e.0, e.2)
right-count (Ok end.Broken) taken bodies heard e = elim e as (λ _. (length taken - 1) / 4 ≡ heard) [
  | inl first ↦ omega (arith, ap length first.0, first.2)
  | inr later ↦ (
      let front = take heard bodies in
      let size = ap length later.1 in
      let sum = length-append (counts_by front) later.0 in
      let some = length-take-le heard bodies (let p = later.3 in omega arith) in
      let few = later.2 in
      omega (arith, size, sum, some, few, counts-size (take heard bodies)))
]
right-count (Ok (end.WrongAnswer got)) taken bodies heard e = absurd e
right-count (Ok end.TooManyCommands) taken bodies heard e = absurd e
right-count (Err failed) taken bodies heard e = omega (arith, ap length e.0, counts-size bodies, e.1)

-- at most one batch is outstanding
pub right-ahead : (result : Result RoundEnd MediumFault) (taken : List ℕ) (bodies : List (List ℕ)) (heard : ℕ) → IsRightEnd result taken bodies heard → length bodies ≤ heard + 1
right-ahead (Ok (end.Done n)) taken bodies heard e = omega (arith, e.1)
right-ahead (Ok end.Empty) taken bodies heard e = absurd e
right-ahead (Ok end.Refused) taken bodies heard e = omega (arith, ap length e.1)
right-ahead (Ok end.Broken) taken bodies heard e = elim e as (λ _. length bodies ≤ heard + 1) [
  | inl first ↦ omega (arith, ap length first.1)
  | inr later ↦ (let p = later.3 in omega arith)
]
right-ahead (Ok (end.WrongAnswer got)) taken bodies heard e = absurd e
right-ahead (Ok end.TooManyCommands) taken bodies heard e = absurd e
right-ahead (Err failed) taken bodies heard e = omega (arith, e.1)

-- no more counts were heard than batches sent
pub right-within : (result : Result RoundEnd MediumFault) (taken : List ℕ) (bodies : List (List ℕ)) (heard : ℕ) → IsRightEnd result taken bodies heard → heard ≤ length bodies
right-within (Ok (end.Done n)) taken bodies heard e = omega (arith, e.1)
right-within (Ok end.Empty) taken bodies heard e = absurd e
right-within (Ok end.Refused) taken bodies heard e = omega (arith, e.2)
right-within (Ok end.Broken) taken bodies heard e = elim e as (λ _. heard ≤ length bodies) [
  | inl first ↦ omega (arith, first.2)
  | inr later ↦ (let p = later.3 in omega arith)
]
right-within (Ok (end.WrongAnswer got)) taken bodies heard e = absurd e
right-within (Ok end.TooManyCommands) taken bodies heard e = absurd e
right-within (Err failed) taken bodies heard e = omega (arith, e.1)

-- a batch was sent only after the answer 1
pub right-accepted : (result : Result RoundEnd MediumFault) (taken : List ℕ) (bodies : List (List ℕ)) (heard : ℕ) → IsRightEnd result taken bodies heard → 1 ≤ length bodies → take 1 taken ≡ 1 ∷ []
right-accepted (Ok (end.Done n)) taken bodies heard e some = ap (take 1) e.0
right-accepted (Ok end.Empty) taken bodies heard e some = absurd e
right-accepted (Ok end.Refused) taken bodies heard e some = absurd (omega (arith, some, ap length e.1))
right-accepted (Ok end.Broken) taken bodies heard e some = elim e as (λ _. take 1 taken ≡ 1 ∷ []) [
  | inl first ↦ absurd (omega (arith, some, ap length first.1))
  | inr later ↦ ap (take 1) later.1
]
right-accepted (Ok (end.WrongAnswer got)) taken bodies heard e some = absurd e
right-accepted (Ok end.TooManyCommands) taken bodies heard e some = absurd e
right-accepted (Err failed) taken bodies heard e some = ap (take 1) e.0

-- The device read all that it was given: the answer and all counts, or 0, or up to the link's end.
pub right-all : (result : Result RoundEnd MediumFault) (taken down : List ℕ) (bodies : List (List ℕ)) (heard given most : ℕ) → IsRightEnd result taken bodies heard → length taken ≡ given → most ≤ length down → given ≤ most
    → length down ≤ 1 + 4 * length bodies → (result ≡ Ok end.Broken → nat_le most given ≡ true) → given ≡ most
right-all (Ok (end.Done n)) taken down bodies heard given most e size least low few broken = omega (arith, ap length e.0, counts-size bodies, size, least, low, few)
right-all (Ok end.Empty) taken down bodies heard given most e size least low few broken = absurd e
right-all (Ok end.Refused) taken down bodies heard given most e size least low few broken = omega (arith, ap length e.0, ap length e.1, size, least, low, few)
right-all (Ok end.Broken) taken down bodies heard given most e size least low few broken = let all = leb-true most given (broken refl) in omega (arith, all, low)
right-all (Ok (end.WrongAnswer got)) taken down bodies heard given most e size least low few broken = absurd e
right-all (Ok end.TooManyCommands) taken down bodies heard given most e size least low few broken = absurd e
right-all (Err failed) taken down bodies heard given most e size least low few broken = omega (arith, ap length e.0, counts-size bodies, size, least, low, few)
