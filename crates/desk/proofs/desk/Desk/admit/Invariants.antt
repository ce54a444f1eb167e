use Rattle.shelf.specs.Calls.{brought_by, no_mark}
use Rattle.shelf.specs.Entries.{entry}
use Rattle.desk.specs.Views.{first_number}
use Rattle.desk.proofs.desk.Desk.admit.Given as goal

abbrev pub ghosts-publish : goal.ghosts-publish
ghosts-publish g a = record { entry = entry (first_number a.token.now.me.0.numbers) (brought_by no_mark a.imei a.body.now a.answer.now) }
