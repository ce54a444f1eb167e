use Rattle.fmb_io.proofs.Steps.{read_whole, there_and_back}
use Rattle.fmb_io.proofs.fetching.fetch.Goals as goal

pub returns-in-Ok-text-clause-text : goal.returns-in-Ok-text-clause-text
returns-in-Ok-text-clause-text g c = read_whole _ _ _ _ _ _ _ c.in-Ok.ensures.handed c.in-Ok.ensures.named c.in-Ok-text.ensures.text c.text_back.ensures

pub returns-in-Ok-text-clause-returned : goal.returns-in-Ok-text-clause-returned
returns-in-Ok-text-clause-returned g c = λ not_host. there_and_back _ _ _ _ _ _ c.in-Ok.ensures.handed c.text_back.ensures c.in-Ok-text.ensures.end

pub returns-in-Err-Failed-clause-returned : goal.returns-in-Err-Failed-clause-returned
returns-in-Err-Failed-clause-returned g c = λ not_host. there_and_back _ _ _ _ _ _ c.in-Ok.ensures.handed c.text_back.ensures tt

pub returns-in-Err-NoMemory-clause-returned : goal.returns-in-Err-NoMemory-clause-returned
returns-in-Err-NoMemory-clause-returned g c = λ not_host. there_and_back _ _ _ _ _ _ c.in-Ok.ensures.handed c.text_back.ensures tt
