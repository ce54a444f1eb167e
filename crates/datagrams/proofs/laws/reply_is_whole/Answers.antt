use Rattle.datagrams.proofs.DatagramLaws.{reply_whole}
use Rattle.datagrams.proofs.laws.reply_is_whole.Goals as goal

pub returns : goal.returns
returns c = reply_whole
