use Rattle.std.proofs.Common.{ap, ◌∙◌}
use Rattle.std.proofs.lemmas.Result.{on_ok_weaker}
use Rattle.record_codecs.specs.Shown.{generation_in}
use Rattle.show_lines.proofs.RecordSent.{tokens_by}
use Rattle.show_lines.proofs.Sending.{after, key_sent, said_as}
use Rattle.show_lines.proofs.record.RecordLineSerialize.serialize.Goals as goal

pub returns : goal.returns
returns g c = on_ok_weaker c.end.result
    (λ sent v is.
    let shows = c.view-record.ensures.shows v is in
    let gps = c.gps-gps.ensures v shows in
    let event = c.event.ensures v shows in
    let generation = c.generation.ensures v shows ∙ ap (λ k. generation_in k v) c.view-record.ensures.codec in
    let ios = c.ios.ensures v shows in
    let nx = c.nx.ensures v shows in
    let priority = c.priority.ensures v shows in
    let time = c.time.ensures v shows in
    said_as (λ i. tokens_by (gps i) (event i) (generation i) (ios i) (nx i) (priority i) (time i) c.args.self.now.line)
    (after c.in_ok-begin.ensures (after c.in_ok-altitude.ensures (after c.in_ok-number.ensures (after c.in_ok-number-2.ensures (after c.in_ok-number_or_null.ensures (after (key_sent _ _ _ c.in_ok-key.ensures) (after c.in_ok-elements.ensures (after c.in_ok-text.ensures (after c.in_ok-latitude.ensures (after c.in_ok-number-3.ensures (after c.in_ok-longitude.ensures (after (key_sent _ _ _ c.in_ok-key-2.ensures) (after c.in_ok-nx_elements.ensures (after c.in_ok-number-4.ensures (after c.in_ok-number-5.ensures (after c.in_ok-number-6.ensures (after c.in_ok-number-7.ensures sent))))))))))))))))))
    c.end.ensures
