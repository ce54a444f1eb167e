-- A well-formed stream is served to its end.
use Rattle.std.proofs.Common.{◌≡◌, ◌⊎◌, inl, inr, ℕ, true, false, List, [], ◌∷◌, ◌++◌, length, map, Option, Some, None, Err, IsSome, IfSome, refl, sym, ap, subst, ◌∙◌, append-nil, arith, length-append}
use Rattle.avl_values.specs.Causes.{Rose}
use Rattle.avl_values.specs.declared.fault.Fault.{Fault}
use Rattle.avl_values.specs.declared.fault.FaultKind.{FaultKind}
use Rattle.layout.specs.Rows.{Verdict, short, fault, judge}
use Rattle.item_streams.specs.Streams.{Item, Reading, next_rows, values}
use Rattle.item_streams.proofs.StreamLaws.{fault_ends, prefix, rows_begin}
use Rattle.links.specs.Links.{LinkState, Traffic}
use Rattle.frame_layout.specs.Readings.{packets_of, up_reading}
use Rattle.frame_layout.specs.UpRows.{up_rows}
use Rattle.frame_layout.specs.Values.{UpValue, login}
use Rattle.shelf.specs.Admits.{Answer}
use Rattle.shelf.specs.Calls.{Brought, brought}
use Rattle.shelf.specs.Histories.{AreCounted, In, IsCounted}
use Rattle.shelf.specs.declared.receipt.AdmitFault.{AdmitFault}
use Rattle.shelf.specs.declared.receipt.AdmitFault.TheVariants as refused
use Rattle.shelf.proofs.Histories.{fed}
use Rattle.shelf.proofs.Members.{in-right}
use Rattle.session_core.specs.declared.served.SessionEnd.{SessionEnd}
use Rattle.session_core.specs.declared.served.SessionEnd.TheVariants as ends
use Rattle.session_core.specs.Complete.{WellFormedEnds}
use Rattle.session_core.specs.Endings.{IsAtEnd}
use Rattle.session_core.specs.Courses.{HaltsBy, rest_verdict, said_in}
use Rattle.session_core.specs.Telling.{MayBeUncounted}
use Rattle.session_core.specs.SessionCalls.{IsOne, IsRefusedBy, MayFollow}
use Rattle.session_core.proofs.Reading.{up_stream, values_then}

-- what begins a stream
front_says : (taken more : List ℕ) → (others : List UpValue) × (said_in (taken ++ more) ≡ said_in taken ++ others)
front_says taken more =
    let law = prefix (up_rows false) (up_rows true) 0 taken more up_stream in
    (values law.0, ap (λ (x : List (Item UpValue)). values x) law.1 ∙ values_then (up_reading false taken).items law.0)

same_login : (i j : ℕ) (xs ys : List UpValue) → login i ∷ xs ≡ login j ∷ ys → i ≡ j
same_login i j xs ys e = cc

no_bytes : (xs ys : List ℕ) → xs ++ ys ≡ [] → xs ≡ []
no_bytes [] ys e = refl
no_bytes (x ∷ xs) ys e = absurd cc

never : (kind : FaultKind) (place : ℕ) (v : Verdict UpValue) → v ≡ fault kind place → v ≡ short → ⊥
never kind place v e f = let no : fault kind place ≡ short = sym e ∙ f in absurd cc

-- where a fault is, bytes are left
fault_rests : (found : Fault) (taken more : List ℕ) → rest_verdict (up_reading false taken) ≡ fault found.kind found.place → (up_reading false (taken ++ more)).rest ≡ [] → ⊥
fault_rests found taken more e none =
    let r : Reading UpValue = up_reading false taken in
    let law = fault_ends (up_rows false) (up_rows true) 0 taken more found.kind found.place up_stream e in
    let empty : r.rest ≡ [] = no_bytes r.rest more (sym (ap (λ (x : Reading UpValue). x.rest) law.0) ∙ none) in
    never found.kind found.place (rest_verdict r) e (ap (λ (b : List ℕ). judge (next_rows (up_rows false) (up_rows true) r.items) 0 b) empty ∙ (rows_begin (up_rows false) (up_rows true) r.items up_stream).first_begins)

-- a count that was answered rose
counted-one : (low high : ℕ) (bs : List Brought) (b : Brought) → AreCounted low high bs → In bs b → IsCounted low high b.answer
counted-one low high [] b are is = absurd is
counted-one low high (c ∷ bs) b are (inl here) = subst (λ (x : Brought). IsCounted low high x.answer) here are.0
counted-one low high (c ∷ bs) b are (inr there) = counted-one low high bs b are.1 there

only_one : (P : Answer → Type 0) (bs : List Brought) → IsOne P bs → (b : Brought) × In bs b × P b.answer
only_one P [] is = absurd is
only_one P (b ∷ []) is = (b, inl refl, is)
only_one P (b ∷ c ∷ bs) is = absurd is

medium_rose : (low high n : ℕ) (answer : Answer) → answer ≡ Err (refused.MediumFault n) → IsCounted low high answer → Rose low high
medium_rose low high n answer e is = let both : IsCounted low high (Err (refused.MediumFault n)) = subst (IsCounted low high) e is in omega (arith, both.0, both.1)

down_rose : (low high n : ℕ) (answer : Answer) → answer ≡ Err (refused.Down n) → IsCounted low high answer → Rose low high
down_rose low high n answer e is = let both : IsCounted low high (Err (refused.Down n)) = subst (IsCounted low high) e is in omega (arith, both.0, both.1)

is_ended : (link : LinkState) → IsSome link.told → IsAtEnd link → link.ended ≡ true
is_ended link some at = of link.told some at
  where
    of : (o : Option Traffic) → IsSome o → IfSome o (λ _. link.ended ≡ true) → link.ended ≡ true
    of None some at = absurd cc
    of (Some t) some at = at

pub complete : {O : Type 0} → WellFormedEnds O
complete {O = O} m known o p told mark s t old new served stream is cause tells formed carried up no_medium no_link = by_end served.end refl is.course.halts
  where
    -- at the link's end all was taken
    all_taken : IsAtEnd new → stream ≡ is.taken
    all_taken at = carried.is ∙ (ap (λ (x : List ℕ). is.taken ++ x) (carried.all (is_ended new tells at)) ∙ append-nil is.taken)

    -- neither the shelf's medium nor an earlier fault of it was answered
    refused_never : (end : SessionEnd) (why : AdmitFault) → served.end ≡ end → (MayFollow end is.of_session.more → IsOne (IsRefusedBy why) is.of_session.more)
        → ((answer : Answer) → answer ≡ Err why → IsCounted s.medium.faults t.medium.faults answer → Rose s.medium.faults t.medium.faults) → ⊥
    refused_never end why e one rose =
        let a = is.of_session in
        let b = only_one (IsRefusedBy why) a.more (one (subst (λ (x : SessionEnd). MayFollow x a.more) e a.follows)) in
        let all = map (brought (mark s)) is.calls in
        let made : In all b.0 = subst (λ (bs : List Brought). In bs b.0) (sym a.are) (in-right a.counted a.more b.0 b.1) in
        let history = fed (mark s) is.calls s t up is.feeds in
        no_medium (rose b.0.answer b.2 (counted-one s.medium.faults t.medium.faults all b.0 history.0.counts made))

    by_end : (end : SessionEnd) → served.end ≡ end → HaltsBy m known end is.course.dealt is.course.halt is.taken new o p
        → ((served.end ≡ ends.Ended) × (served.frames ≡ length (packets_of (up_reading false stream).items))) ⊎ (served.end ≡ ends.NoMemory)
    by_end ends.Ended e h =
        let w = is.told in
        let none : w.others ≡ [] = subst (λ (x : SessionEnd). MayBeUncounted x w.counted w.others) e w.fits in
        let counted : packets_of (up_reading false is.taken).items ≡ w.counted = w.packets_are ∙ (ap (λ (x : List (List ℕ)). w.counted ++ x) none ∙ append-nil w.counted) in
        inl (e, w.frames ∙ (ap (λ (x : List (List ℕ)). length x) (sym counted) ∙ ap (λ (b : List ℕ). length (packets_of (up_reading false b).items)) (sym (all_taken h.2))))
    by_end (ends.EndedInside n) e h =
        let none : (up_reading false is.taken).rest ≡ [] = ap (λ (b : List ℕ). (up_reading false b).rest) (sym (all_taken h.4)) ∙ formed.whole in
        absurd (omega (arith, h.2, h.3, ap (λ (b : List ℕ). length b) none))
    by_end (ends.LongEnough n) e h = absurd (omega (arith, h.3, formed.few, ap (λ (b : List ℕ). length b) carried.is, length-append is.taken carried.more))
    by_end (ends.Broken found) e h = absurd (fault_rests found is.taken carried.more h.1 (ap (λ (b : List ℕ). (up_reading false b).rest) (sym carried.is) ∙ formed.whole))
    by_end (ends.Unknown imei) e h =
        let front = front_says is.taken carried.more in
        let says : login formed.imei ∷ formed.others ≡ (login imei ∷ is.course.halt.left) ++ front.0 =
        sym formed.says ∙ (ap said_in carried.is ∙ (front.1 ∙ ap (λ (x : List UpValue). x ++ front.0) (is.course.items ∙ ap (λ (x : List UpValue). x ++ is.course.halt.left) h.login_is))) in
        let same : formed.imei ≡ imei = same_login formed.imei imei formed.others (is.course.halt.left ++ front.0) says in
        let no : true ≡ false = sym formed.is_known ∙ (ap known same ∙ h.unknown) in absurd cc
    by_end ends.LinkFault e h = absurd (no_link (cause e))
    by_end (ends.MediumFault n) e h = absurd (refused_never (ends.MediumFault n) (refused.MediumFault n) e (λ f. f) (λ answer a c. medium_rose s.medium.faults t.medium.faults n answer a c))
    by_end (ends.Down n) e h = absurd (refused_never (ends.Down n) (refused.Down n) e (λ f. f) (λ answer a c. down_rose s.medium.faults t.medium.faults n answer a c))
    by_end ends.NoMemory e h = inr e
