-- The laws of datagrams.
use Rattle.std.proofs.Common.{◌≡◌, ℕ, List, ◌++◌, length, take, refl, sym, ap, subst, ◌∙◌, arith, length-take}
use Rattle.std.specs.Int.{bytes_high_first}
use Rattle.layout.specs.Fields.{number}
use Rattle.layout.specs.Rows.{body, Fills}
use Rattle.layout.proofs.BodyLaws.{body_filled, body_judged}
use Rattle.layout.proofs.Numbers.{bytes-take, number_spell}
use Rattle.layout.proofs.RowLaws.{stays, none_begins}
use Rattle.datagrams.specs.DatagramRows.{datagram_rows, datagram_verdict, reply_rows, reply_verdict}
use Rattle.datagrams.specs.Items.{IsDatagram, content_of, datagram_of}
use Rattle.datagrams.specs.Laws.{DatagramIsWhole, DatagramVerdictStays, NoDatagramBeginsAnother, NoReplyBeginsAnother, ReplyIsWhole, ReplyVerdictStays, WholeIsDatagram, WholeIsReply}
use Rattle.datagrams.specs.Values.{DatagramValue}
use Rattle.datagrams.proofs.DatagramFills.{datagram_fills, datagram_size, fills_datagram}
use Rattle.datagrams.proofs.ReplyFills.{fills_reply, reply_fills, reply_size}

-- Datagrams.

pub whole_datagram : WholeIsDatagram
unfolding datagram_verdict
whole_datagram total n v bytes p e =
    let t = body_filled (datagram_rows total) total n v bytes e in
    (t.0, t.1, fills_datagram total v (take total bytes) (bytes-take total bytes p) (omega (arith, length-take total bytes, t.1)) t.2)

pub datagram_whole : DatagramIsWhole
unfolding datagram_verdict
datagram_whole v bytes more is = body_judged (datagram_rows (length bytes)) v bytes more (datagram_fills v bytes is)

pub datagram_stays : DatagramVerdictStays
unfolding datagram_verdict
datagram_stays total bytes more come = stays (body total (datagram_rows total)) 0 bytes more come

-- the length is read from the bytes, so two datagrams of which one begins the other have the same length
length_bytes : (v : DatagramValue) (x : List ℕ) → take 2 (datagram_of v ++ x) ≡ bytes_high_first 2 (length (content_of v))
length_bytes v x = refl

length_same : (v w : DatagramValue) (a b x y : List ℕ) → IsDatagram v a → IsDatagram w b → a ++ x ≡ b ++ y → length b ≡ length a
length_same v w a b x y p q same =
    let joined : datagram_of v ++ x ≡ datagram_of w ++ y = sym (ap (λ l. l ++ x) p.is) ∙ same ∙ ap (λ l. l ++ y) q.is in
    let spelled : bytes_high_first 2 (length (content_of v)) ≡ bytes_high_first 2 (length (content_of w)) = sym (length_bytes v x) ∙ ap (λ l. take 2 l) joined ∙ length_bytes w y in
    let sizes : length (content_of v) ≡ length (content_of w) = sym (number_spell 2 (length (content_of v)) p.fits) ∙ ap number spelled ∙ number_spell 2 (length (content_of w)) q.fits in
    omega (arith, sizes, ap length p.is, datagram_size v, ap length q.is, datagram_size w)

pub none_begins_datagram : NoDatagramBeginsAnother
none_begins_datagram v w a b x y p q same =
    let n = length_same v w a b x y p q same in
    none_begins (datagram_rows (length a)) v w a b x y (datagram_fills v a p) (subst (λ k. Fills (datagram_rows k) w b) n (datagram_fills w b q)) same

-- Replies.

pub whole_reply : WholeIsReply
unfolding reply_verdict
whole_reply total n v bytes p e =
    let t = body_filled (reply_rows total) total n v bytes e in
    (t.0, t.1, fills_reply total v (take total bytes) (bytes-take total bytes p) t.2)

pub reply_whole : ReplyIsWhole
unfolding reply_verdict
reply_whole v bytes more is = body_judged (reply_rows (length bytes)) v bytes more (reply_fills v bytes is)

pub reply_stays : ReplyVerdictStays
unfolding reply_verdict
reply_stays total bytes more come = stays (body total (reply_rows total)) 0 bytes more come

pub none_begins_reply : NoReplyBeginsAnother
none_begins_reply v w a b x y p q same =
    let n : length b ≡ length a = reply_size w b q ∙ sym (reply_size v a p) in
    none_begins (reply_rows (length a)) v w a b x y (reply_fills v a p) (subst (λ k. Fills (reply_rows k) w b) n (reply_fills w b q)) same
