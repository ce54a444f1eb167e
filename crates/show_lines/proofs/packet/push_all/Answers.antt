use Rattle.std.proofs.Common.{◌++◌, ap, sym, ◌∙◌, subst}
use Rattle.record_codecs.specs.Views.{records_left}
use Rattle.show_lines.specs.PacketLines.{packet_lines}
use Rattle.show_lines.proofs.PacketPushed.{Missing, all_missing, extends_more, one_less}
use Rattle.show_lines.proofs.packet.push_all.Goals as goal

pub loop-record-init : goal.loop-record-init
loop-record-init c = (
  record { more = _; is = c.in_ok-push_line.ensures.ok },
  λ rs packet.
      let left = ap records_left c.into_iter-record-iterator.ensures.into_iter_gives ∙ c.records-record-items.ensures.packet c.args.head.codec rs packet in
      subst (λ l. Missing c.args.head.codec c.args.line l c.push_line.new.out.items (c.args.out.now.items ++ packet_lines c.args.head c.args.body.now c.args.line)) (sym left)
      (all_missing c.args.head c.args.body.now c.args.line rs c.args.out.now.items c.push_line.new.out.items packet c.in_ok-push_line.ensures.ok),
)

pub loop-record-preserved : goal.loop-record-preserved
loop-record-preserved c = (
  extends_more _ _ _ c.loop-record.invariant.0 c.in_ok-push_record_line.ensures.kept,
  λ rs packet. one_less c.args.head.codec c.args.line c.in-Some.record.now _ _ _ _ _ (c.loop-record.invariant.1 rs packet) c.in-Some.ensures.steps c.in_ok-push_record_line.ensures.ok,
)
