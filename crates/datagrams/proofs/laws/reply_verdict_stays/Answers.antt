use Rattle.datagrams.proofs.DatagramLaws.{reply_stays}
use Rattle.datagrams.proofs.laws.reply_verdict_stays.Goals as goal

pub returns : goal.returns
returns c = reply_stays
