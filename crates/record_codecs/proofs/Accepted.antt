-- A body that is read whole is one, and one is read whole.
use Rattle.std.proofs.Common.{◌≡◌, List, ℕ, length, Result, Ok, Err, sym, ap, ◌∙◌}
use Rattle.std.specs.Prelude.{IfOk}
use Rattle.avl_values.specs.declared.fault.Fault.{Fault}
use Rattle.layout.specs.Bytes.{AreBytes}
use Rattle.record_layout.specs.Body.{IsBody}
use Rattle.record_layout.specs.PacketRows.{packet_verdict}
use Rattle.record_layout.specs.declared.head.PacketHead.{PacketHead}
use Rattle.record_layout.proofs.BodyLaws.{body_judged, judged_body}
use Rattle.record_codecs.specs.Verdicts.{read_verdict}

pub read_body : (body : List ℕ) (result : Result PacketHead Fault) → AreBytes body → read_verdict (length body) result ≡ packet_verdict (length body) body → IfOk result (λ head. IsBody head body)
read_body body (Ok head) bytes e = judged_body head body bytes (sym e)
read_body body (Err found) bytes e = tt

pub body_read : (head : PacketHead) (body : List ℕ) (result : Result PacketHead Fault) → IsBody head body → read_verdict (length body) result ≡ packet_verdict (length body) body → result ≡ Ok head
body_read head body (Ok found) is e = let whole_is = e ∙ body_judged head body is in let same : found ≡ head = cc in ap (λ (h : PacketHead). (let r : Result PacketHead Fault = Ok h in r)) same
body_read head body (Err found) is e = let never = e ∙ body_judged head body is in absurd (cc)
