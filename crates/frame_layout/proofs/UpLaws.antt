-- The laws of the items up.
use Rattle.std.proofs.Common.{◌≡◌, ℕ, ◌+◌, Bool, true, false, List, length, take, sym, ap, subst, ◌∙◌, arith}
use Rattle.layout.specs.Bytes.{AreBytes}
use Rattle.layout.specs.Rows.{whole, Fills}
use Rattle.layout.proofs.Numbers.{bytes-take}
use Rattle.layout.proofs.RowLaws.{filled, is_whole, none_begins, stays}
use Rattle.layout.proofs.MappedLaws.{map_fill, map_take}
use Rattle.command_layout.specs.declared.way.Way.TheVariants.{Up}
use Rattle.frame_layout.specs.FrameBodies.{body_kind_rows}
use Rattle.frame_layout.specs.FrameRows.{frame_rows}
use Rattle.frame_layout.specs.Items.{IsFrame, IsUpItem, frame_of}
use Rattle.frame_layout.specs.Laws.{NoUpItemBeginsAnother, UpItemIsWhole, UpVerdictStays, WholeIsUpItem}
use Rattle.frame_layout.specs.UpRows.{up_frame_rows, up_rows}
use Rattle.frame_layout.specs.Values.{UpValue, frame_value, login, packet, response}
use Rattle.frame_layout.specs.declared.body_kind.BodyKind.{BodyKind}
use Rattle.frame_layout.specs.declared.body_kind.BodyKind.TheVariants.{Packet, Command}
use Rattle.frame_layout.proofs.FrameFills.{frame_fill, frame_taken}
use Rattle.frame_layout.proofs.KindFills.{kind_fill, kind_size, kind_taken}
use Rattle.frame_layout.proofs.LoginFills.{login_fills, login_taken}

abbrev says : BodyKind × List ℕ → UpValue
says f = frame_value f.0 f.1

frame_fills : (kind : BodyKind) (body bytes : List ℕ) → IsFrame Up kind body bytes → Fills up_frame_rows (frame_value kind body) bytes
unfolding up_frame_rows
frame_fills kind body bytes is =
    let fills : Fills (frame_rows 65535 (body_kind_rows Up)) (kind, body) (frame_of body) =
    frame_fill 65535 (body_kind_rows Up) kind body is.are_bytes (kind_size Up kind body is.of_body) is.fits (omega arith) (kind_fill Up kind body is.of_body) in
    subst (Fills up_frame_rows (frame_value kind body)) (sym is.is) (map_fill says (frame_rows 65535 (body_kind_rows Up)) (kind, body) (frame_of body) fills)

frame_item : (kind : BodyKind) (body bytes : List ℕ) → IsFrame Up kind body bytes → IsUpItem true (frame_value kind body) bytes
frame_item (Packet head) body bytes is = is
frame_item Command body bytes is = is

filled_frame : (v : UpValue) (bytes : List ℕ) → AreBytes bytes → Fills up_frame_rows v bytes → IsUpItem true v bytes
unfolding up_frame_rows
filled_frame v bytes p fills =
    let m = map_take says (frame_rows 65535 (body_kind_rows Up)) v bytes fills in
    let f = frame_taken 65535 (body_kind_rows Up) m.0 bytes p m.2 in
    let t = f.taken in
    let is : IsFrame Up m.0.0 m.0.1 bytes = record { is = f.is; of_body = kind_taken Up (length m.0.1) m.0.0 m.0.1 t.bytes_in t.fills; fits = t.fits; are_bytes = t.bytes_in } in
    subst (λ x. IsUpItem true x bytes) m.1 (frame_item m.0.0 m.0.1 bytes is)

pub up_fills : (after_login : Bool) (v : UpValue) (bytes : List ℕ) → IsUpItem after_login v bytes → Fills (up_rows after_login) v bytes
up_fills false (login imei) bytes is = login_fills imei bytes is
up_fills false (packet head body) bytes is = absurd is
up_fills false (response body) bytes is = absurd is
up_fills true (login imei) bytes is = absurd is
up_fills true (packet head body) bytes is = frame_fills (Packet head) body bytes is
up_fills true (response body) bytes is = frame_fills Command body bytes is

pub filled_up : (after_login : Bool) (v : UpValue) (bytes : List ℕ) → AreBytes bytes → Fills (up_rows after_login) v bytes → IsUpItem after_login v bytes
filled_up false v bytes p fills = let t = login_taken v bytes p fills in subst (λ x. IsUpItem false x bytes) (sym t.value) t.is
filled_up true v bytes p fills = filled_frame v bytes p fills

pub whole_up : WholeIsUpItem
whole_up after_login v n bytes p e =
    let f = filled (up_rows after_login) 0 n v bytes e in
    let k : f.0 ≡ n = omega (arith, f.1) in
    (omega (arith, f.1, f.2), subst (λ m. IsUpItem after_login v (take m bytes)) k (filled_up after_login v (take f.0 bytes) (bytes-take f.0 bytes p) f.3))

pub up_whole : UpItemIsWhole
up_whole after_login v bytes more is =
    let n : 0 + length bytes ≡ length bytes = omega arith in
    is_whole (up_rows after_login) 0 v bytes more (up_fills after_login v bytes is) ∙ ap (λ k. whole v k) n

pub up_stays : UpVerdictStays
up_stays after_login bytes more come = stays (up_rows after_login) 0 bytes more come

pub none_begins_up : NoUpItemBeginsAnother
none_begins_up after_login v w a b x y p q same = none_begins (up_rows after_login) v w a b x y (up_fills after_login v a p) (up_fills after_login w b q) same
