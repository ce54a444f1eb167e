use Rattle.item_streams.proofs.StreamLaws.{fault_ends}
use Rattle.item_streams.proofs.laws.fault_ends_stream.Goals as goal

pub returns : goal.returns
returns g c = fault_ends
