use Rattle.std.proofs.Common.{◌+◌, ◌<◌, ◌^◌, length, sym, ap, subst, arith, All}
use Rattle.record_writing.proofs.Pieces.{few_elements, fits_count, narrow_ids}
use Rattle.record_writing.proofs.writing.put_elements.Goals as goal

pub put_groups-requires-clause-ids : goal.put_groups-requires-clause-ids
put_groups-requires-clause-ids c =
    λ e. subst (All (λ io. io.id < 256)) (sym c.as_slice-ios.ensures.value) (narrow_ids c.args.codec c.args.value.now c.requires.narrow e)

pub overflow_add-ios : goal.overflow_add-ios
overflow_add-ios c =
    let r = c.args.value.now in
    let same = ap length c.as_slice-ios.ensures.value in
    let few = few_elements c.args.codec r (omega (arith, same, c.as_slice-ios.ensures.fits)) c.requires.in_codec (omega (arith, c.requires.room)) in
    let small : length r.ios.items + length r.nx < 2 ^ 16 = fits_count c.args.codec (length r.ios.items + length r.nx) few in
    omega (arith, small, same, c.len.ensures)
