use Rattle.datagrams.proofs.DatagramLaws.{whole_reply}
use Rattle.datagrams.proofs.laws.whole_is_reply.Goals as goal

pub returns : goal.returns
returns c = whole_reply
