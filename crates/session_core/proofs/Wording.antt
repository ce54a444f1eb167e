-- A course, in words over all that was taken: the text, the counts and the orders.
use Rattle.std.proofs.Common.{◌≡◌, inl, inr, ℕ, ◌<◌, Bool, true, false, List, [], ◌∷◌, ◌++◌, length, take, drop, Option, if◌then◌else◌, refl, sym, ap, subst, ◌∙◌, append_assoc, append-nil, arith}
use Rattle.std.specs.Prelude.{nat_le}
use Rattle.std.proofs.lemmas.List.{take-append-drop}
use Rattle.links.specs.Links.{LinkState}
use Rattle.frame_layout.specs.Readings.{packet_in, up_reading}
use Rattle.frame_layout.specs.Values.{UpValue, login, packet, response}
use Rattle.session_core.specs.declared.served.Served.{Served}
use Rattle.session_core.specs.declared.served.SessionEnd.{SessionEnd}
use Rattle.session_core.specs.declared.served.SessionEnd.TheVariants as ends
use Rattle.session_core.specs.Doings.{counted_in}
use Rattle.session_core.specs.Courses.{said_in, Halt, IsAllDealt, IsBeforePacket, IsInAnswer, IsRefusal, IsUnbegun, IsCourse}
use Rattle.session_core.specs.Telling.{IsTold, IsAllWritten, OrdersAre, MayBeUncounted}
use Rattle.session_core.specs.SessionCalls.{bodies_of}
use Rattle.session_core.specs.Talks.{Meaning, Talk, nobody, device, stranger, reply, next, text, after, packets, stores, orders_in, is_stranger}
use Rattle.session_core.proofs.Courses.{LoginFirst, login_first, first_of, bodies_in, bodies_then, bodies_of-then, bodies_size, bodies_total, packets_are, stranger_says, stranger_stays, all_bodies}
use Rattle.session_core.proofs.Going.{after_then, text_then}

-- of an item's packet, what was counted and what wasn't
module _ {O : Type 0} (m : Meaning O) (known : ℕ → Bool) where
  cut_one : (b : Bool) (imei : ℕ) (body : List ℕ) → (others : List (List ℕ)) × (body ∷ [] ≡ bodies_of (if b then (imei, body) ∷ [] else []) ++ others)
  cut_one true imei body = ([], refl)
  cut_one false imei body = (body ∷ [], refl)

  cut_none : (b : Bool) (xs : List (List ℕ)) → (let none : List (ℕ × List ℕ) = [] in (others : List (List ℕ)) × (xs ≡ bodies_of (if b then none else []) ++ others))
  cut_none true xs = (xs, refl)
  cut_none false xs = (xs, refl)

  pub cut_bodies : (t : Talk O) (v : UpValue) (n : ℕ) → (others : List (List ℕ)) × (packet_in v ≡ bodies_of (counted_in (stores m known t v) n) ++ others)
  cut_bodies (nobody o) v n = cut_none (nat_le 4 n) (packet_in v)
  cut_bodies (device imei o) (login other) n = cut_none (nat_le 4 n) []
  cut_bodies (device imei o) (packet head body) n = cut_one (nat_le 4 n) imei body
  cut_bodies (device imei o) (response body) n = cut_none (nat_le 4 n) []
  cut_bodies (stranger imei o) v n = cut_none (nat_le 4 n) (packet_in v)

  -- nothing is said to a stranger
  pub is_answered : (t : Talk O) (v : UpValue) (n : ℕ) → n < length (reply m known t v) → is_stranger t ≡ false
  is_answered (nobody o) v n low = refl
  is_answered (device imei o) v n low = refl
  is_answered (stranger imei o) v n low = absurd (omega (arith, low))

  module _ (o p : O) (link : LinkState) (served : Served) (taken written : List ℕ) where
    abbrev dealt_talk : IsCourse m known o p link served taken written → Talk O
    dealt_talk c = after m known (nobody o) c.dealt

    words : (c : IsCourse m known o p link served taken written) (unwritten : List ℕ) → text m known (dealt_talk c) c.halt.left ≡ c.halt.part ++ unwritten → IsAllWritten served.end unwritten
        → OrdersAre served.end p (orders_in (after m known (nobody o) (said_in taken))) → (others : List (List ℕ)) → bodies_in (said_in taken) ≡ bodies_of (packets m known (nobody o) c.dealt ++ c.halt.counted) ++ others
        → MayBeUncounted served.end (bodies_of (packets m known (nobody o) c.dealt ++ c.halt.counted)) others → IsTold m known o p served taken written
    words c unwritten says all orders others bodies fits =
        let ps : List (ℕ × List ℕ) = packets m known (nobody o) c.dealt ++ c.halt.counted in
        let dealt : List ℕ = text m known (nobody o) c.dealt in
        record {
          unwritten = unwritten;
          begins = ap (text m known (nobody o)) c.items ∙ (text_then m known (nobody o) c.dealt c.halt.left ∙ (ap (λ (b : List ℕ). dealt ++ b) says
              ∙ (sym (append_assoc dealt c.halt.part unwritten) ∙ ap (λ (b : List ℕ). b ++ unwritten) (sym c.writes))));
          all = all;
          orders = orders;
          counted = bodies_of ps;
          others = others;
          packets_are = packets_are (up_reading false taken).items ∙ bodies;
          frames = c.frames ∙ sym (bodies_size ps);
          records = c.records ∙ sym (bodies_total ps);
          fits = fits;
        }

    -- the items that were dealt with begin with a login
    dealt_first : (c : IsCourse m known o p link served taken written) → LoginFirst c.dealt
    dealt_first c = first_of c.dealt c.halt.left (subst LoginFirst c.items (login_first taken))

    -- all was dealt with
    all_words : (c : IsCourse m known o p link served taken written) → IsAllDealt m known c.dealt c.halt o p → IsAllWritten served.end [] → ((q : O) → p ≡ q → OrdersAre served.end p q) → ((counted : List (List ℕ)) → MayBeUncounted served.end counted [])
        → IsTold m known o p served taken written
    all_words c a all orders fits =
        let said : said_in taken ≡ c.dealt = c.items ∙ (ap (λ (h : Halt). c.dealt ++ h.left) a.halt ∙ append-nil c.dealt) in
        let ps : List (ℕ × List ℕ) = packets m known (nobody o) c.dealt in
        words c [] (ap (λ (h : Halt). text m known (dealt_talk c) h.left) a.halt ∙ sym (ap (λ (h : Halt). h.part ++ []) a.halt)) all
        (orders (orders_in (after m known (nobody o) (said_in taken))) (a.orders ∙ ap (λ (x : List UpValue). orders_in (after m known (nobody o) x)) (sym said)))
        []
        (ap bodies_in said ∙ (all_bodies m known o c.dealt (dealt_first c) a.welcome ∙ (ap bodies_of (sym (ap (λ (h : Halt). ps ++ h.counted) a.halt ∙ append-nil ps)) ∙ sym (append-nil (bodies_of (ps ++ c.halt.counted))))))
        (fits (bodies_of (ps ++ c.halt.counted)))

    -- the first that is left is a packet
    before_words : (c : IsCourse m known o p link served taken written) → IsBeforePacket m known c.dealt c.halt o p → ((left : List ℕ) → IsAllWritten served.end left) → ((q : O) → OrdersAre served.end p q)
        → ((counted others : List (List ℕ)) → 0 < length others → MayBeUncounted served.end counted others) → IsTold m known o p served taken written
    before_words c b all orders fits =
        let ps : List (ℕ × List ℕ) = packets m known (nobody o) c.dealt in
        let rest : List (List ℕ) = b.body ∷ bodies_in b.others in
        words c (text m known (dealt_talk c) c.halt.left) (ap (λ (x : List ℕ). x ++ text m known (dealt_talk c) c.halt.left) (sym b.part)) (all _) (orders _)
        rest
        (ap bodies_in (c.items ∙ ap (λ (x : List UpValue). c.dealt ++ x) b.left) ∙ (bodies_then c.dealt (packet b.head b.body ∷ b.others)
        ∙ ap (λ (x : List (List ℕ)). x ++ rest) (all_bodies m known o c.dealt (dealt_first c) (ap is_stranger b.talk) ∙ ap bodies_of (sym (ap (λ (x : List (ℕ × List ℕ)). ps ++ x) b.counted ∙ append-nil ps)))))
        (fits (bodies_of (ps ++ c.halt.counted)) rest (omega arith))

    -- it halted in an answer
    inside_words : (c : IsCourse m known o p link served taken written) → IsInAnswer m known c.dealt c.halt o → ((left : List ℕ) → IsAllWritten served.end left) → ((q : O) → OrdersAre served.end p q)
        → ((counted others : List (List ℕ)) → MayBeUncounted served.end counted others) → IsTold m known o p served taken written
    inside_words c b all orders fits =
        let ps : List (ℕ × List ℕ) = packets m known (nobody o) c.dealt in
        let t : Talk O = dealt_talk c in
        let r : List ℕ = reply m known t b.at in
        let more : List ℕ = text m known (next m known t b.at) b.others in
        let cut = cut_bodies t b.at b.size in
        let counted : List (ℕ × List ℕ) = counted_in (stores m known t b.at) b.size in
        let rest : List (List ℕ) = cut.0 ++ bodies_in b.others in
        words c (drop b.size r ++ more)
        (ap (text m known t) b.left ∙ (ap (λ (x : List ℕ). x ++ more) (sym (take-append-drop b.size r)) ∙ (append_assoc (take b.size r) (drop b.size r) more ∙ ap (λ (x : List ℕ). x ++ (drop b.size r ++ more)) (sym b.part)))) (all _) (orders _)
        rest
        (ap bodies_in (c.items ∙ ap (λ (x : List UpValue). c.dealt ++ x) b.left) ∙ (bodies_then c.dealt (b.at ∷ b.others)
        ∙ (ap (λ (x : List (List ℕ) × List (List ℕ)). x.0 ++ (x.1 ++ bodies_in b.others)) (λ i. (all_bodies m known o c.dealt (dealt_first c) (is_answered t b.at b.size b.within) i, cut.1 i))
        ∙ (ap (λ (x : List (List ℕ)). bodies_of ps ++ x) (append_assoc (bodies_of counted) cut.0 (bodies_in b.others))
        ∙ (sym (append_assoc (bodies_of ps) (bodies_of counted) rest) ∙ ap (λ (x : List (List ℕ)). x ++ rest) (sym (bodies_of-then ps counted) ∙ ap (λ (x : List (ℕ × List ℕ)). bodies_of (ps ++ x)) (sym b.counted)))))))
        (fits (bodies_of (ps ++ c.halt.counted)) rest)

    -- a login was refused
    by_unknown : (b : Bool) (imei : ℕ) (q : O) → b ≡ false → (let t : Talk O = if b then device imei q else stranger imei o in t ≡ stranger imei o)
    by_unknown true imei q e = absurd cc
    by_unknown false imei q e = refl

    refused_counts : (imei : ℕ) (c : IsCourse m known o p link served taken written) → IsRefusal m known imei c.dealt c.halt o p → packets m known (nobody o) c.dealt ++ c.halt.counted ≡ []
    refused_counts imei c b = ap (λ (z : List UpValue × List (ℕ × List ℕ)). packets m known (nobody o) z.0 ++ z.1) (λ i. (b.login_is i, b.counted i))

    refused_words : (imei : ℕ) (c : IsCourse m known o p link served taken written) → IsRefusal m known imei c.dealt c.halt o p → ((left : List ℕ) → left ≡ [] → IsAllWritten served.end left) → ((q : O) → p ≡ q → OrdersAre served.end p q)
        → ((counted others : List (List ℕ)) → counted ≡ [] → MayBeUncounted served.end counted others) → IsTold m known o p served taken written
    refused_words imei c b all orders fits =
        let t : Talk O = dealt_talk c in
        let is : t ≡ stranger imei o = ap (after m known (nobody o)) b.login_is ∙ by_unknown (known imei) imei (m.asked o imei) b.unknown in
        let ps : List (ℕ × List ℕ) = packets m known (nobody o) c.dealt in
        let none : ps ++ c.halt.counted ≡ [] = refused_counts imei c b in
        let quiet : text m known t c.halt.left ≡ [] = ap (λ (u : Talk O). text m known u c.halt.left) is ∙ stranger_says m known imei o c.halt.left in
        words c (text m known t c.halt.left) (ap (λ (x : List ℕ). x ++ text m known t c.halt.left) (sym b.part)) (all _ quiet)
        (orders (orders_in (after m known (nobody o) (said_in taken))) (b.orders ∙ sym (ap orders_in (ap (after m known (nobody o)) c.items ∙ (after_then m known (nobody o) c.dealt c.halt.left
        ∙ (ap (λ (u : Talk O). after m known u c.halt.left) is ∙ stranger_stays m known imei o c.halt.left))))))
        (bodies_in (said_in taken))
        (ap (λ (x : List (ℕ × List ℕ)). bodies_of x ++ bodies_in (said_in taken)) (sym none))
        (fits (bodies_of (ps ++ c.halt.counted)) (bodies_in (said_in taken)) (ap bodies_of none))

    -- nothing was taken
    unbegun_words : (c : IsCourse m known o p link served taken written) → IsUnbegun c.dealt c.halt taken o p → IsAllWritten served.end [] → ((q : O) → p ≡ q → OrdersAre served.end p q) → ((counted : List (List ℕ)) → MayBeUncounted served.end counted [])
        → IsTold m known o p served taken written
    unbegun_words c u all orders fits = all_words c (record {
      halt = u.halt;
      welcome = ap (λ (x : List UpValue). is_stranger (after m known (nobody o) x)) u.dealt_is;
      orders = u.orders ∙ sym (ap (λ (x : List UpValue). orders_in (after m known (nobody o) x)) u.dealt_is);
    }) all orders fits

  abbrev pub served_so : Option ℕ → ℕ → ℕ → SessionEnd → Served
  served_so imei frames records end = record { imei = imei; frames = frames; records = records; end = end }

  pub told : (o p : O) (link : LinkState) (i : Option ℕ) (f k : ℕ) (end : SessionEnd) (taken written : List ℕ) → IsCourse m known o p link (served_so i f k end) taken written → IsTold m known o p (served_so i f k end) taken written
  told o p link i f k ends.Ended taken written c = all_words o p link (served_so i f k ends.Ended) taken written c c.halts.0 refl (λ q e. e) (λ _. refl)
  told o p link i f k (ends.EndedInside n) taken written c = all_words o p link (served_so i f k (ends.EndedInside n)) taken written c c.halts.0 refl (λ q e. e) (λ _. refl)
  told o p link i f k (ends.LongEnough n) taken written c = all_words o p link (served_so i f k (ends.LongEnough n)) taken written c c.halts.0 refl (λ q e. e) (λ _. refl)
  told o p link i f k (ends.Broken found) taken written c = all_words o p link (served_so i f k (ends.Broken found)) taken written c c.halts.0 refl (λ q e. e) (λ _. refl)
  told o p link i f k (ends.Unknown imei) taken written c = refused_words o p link (served_so i f k (ends.Unknown imei)) taken written imei c c.halts (λ left e. e) (λ q e. e) (λ counted others e. e)
  told o p link i f k (ends.MediumFault n) taken written c = before_words o p link (served_so i f k (ends.MediumFault n)) taken written c c.halts (λ left. tt) (λ q. tt) (λ counted others some. some)
  told o p link i f k (ends.Down n) taken written c = before_words o p link (served_so i f k (ends.Down n)) taken written c c.halts (λ left. tt) (λ q. tt) (λ counted others some. some)
  told o p link i f k ends.NoMemory taken written c = elim c.halts [
    | inl b ↦ before_words o p link (served_so i f k ends.NoMemory) taken written c b (λ left. tt) (λ q. tt) (λ counted others some. tt)
    | inr u ↦ unbegun_words o p link (served_so i f k ends.NoMemory) taken written c u tt (λ q e. tt) (λ counted. tt)
  ]
  told o p link i f k ends.LinkFault taken written c = elim c.halts [
    | inl a ↦ all_words o p link (served_so i f k ends.LinkFault) taken written c a.0 tt (λ q e. tt) (λ counted. tt)
    | inr b ↦ inside_words o p link (served_so i f k ends.LinkFault) taken written c b (λ left. tt) (λ q. tt) (λ counted others. tt)
  ]
