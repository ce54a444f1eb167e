-- The laws of commands.
use Rattle.std.proofs.Common.{◌≡◌, ℕ, ◌+◌, ◌≤◌, List, [], ◌++◌, length, take, drop, refl, sym, ap, subst, ◌∙◌, arith, length-take, length-drop}
use Rattle.std.specs.Int.{bytes_high_first}
use Rattle.layout.specs.Fields.{number}
use Rattle.layout.specs.Rows.{body, Fills}
use Rattle.layout.proofs.BodyLaws.{body_fills, body_filled, body_judged}
use Rattle.layout.proofs.Numbers.{bytes-take, number_spell}
use Rattle.layout.proofs.RowLaws.{stays, none_begins}
use Rattle.command_layout.specs.declared.way.Way.{Way}
use Rattle.command_layout.specs.CommandRows.{command_rows, command_verdict}
use Rattle.command_layout.specs.Laws.{CommandIsWhole, CommandVerdictStays, NoCommandBeginsAnother, WholeIsCommand}
use Rattle.command_layout.specs.Spelling.{IsCommand, command_of, content_of}
use Rattle.command_layout.specs.Values.{CommandValue}
use Rattle.command_layout.proofs.CommandFills.{command_fills, command_size, fills_command}

pub command_whole : CommandIsWhole
unfolding command_verdict
command_whole way v bytes more is = body_judged (command_rows way (length bytes)) v bytes more (command_fills way v bytes is)

pub whole_command : WholeIsCommand
unfolding command_verdict
whole_command way total n v bytes p e =
    let f = body_filled (command_rows way total) total n v bytes e in
    (f.0, f.1, fills_command way total v (take total bytes) (bytes-take total bytes p) f.2)

pub command_stays : CommandVerdictStays
unfolding command_verdict
command_stays way total bytes more come = stays (body total (command_rows way total)) 0 bytes more come

-- the size is read from the bytes, so two commands of which one begins the other have the same length
size_bytes : (v : CommandValue) (x : List ℕ) → take 4 (drop 3 (command_of v ++ x)) ≡ bytes_high_first 4 (length (content_of v))
size_bytes v x = refl

size_same : (way : Way) (v w : CommandValue) (a b x y : List ℕ) → IsCommand way v a → IsCommand way w b → a ++ x ≡ b ++ y → length b ≡ length a
size_same way v w a b x y p q same =
    let joined : command_of v ++ x ≡ command_of w ++ y = sym (ap (λ l. l ++ x) p.is) ∙ same ∙ ap (λ l. l ++ y) q.is in
    let spelled : bytes_high_first 4 (length (content_of v)) ≡ bytes_high_first 4 (length (content_of w)) = sym (size_bytes v x) ∙ ap (λ l. take 4 (drop 3 l)) joined ∙ size_bytes w y in
    let sizes : length (content_of v) ≡ length (content_of w) = sym (number_spell 4 (length (content_of v)) p.fits.size) ∙ ap number spelled ∙ number_spell 4 (length (content_of w)) q.fits.size in
    omega (arith, sizes, ap length p.is, command_size v, ap length q.is, command_size w)

pub none_begins_command : NoCommandBeginsAnother
none_begins_command way v w a b x y p q same =
    let n = size_same way v w a b x y p q same in
    none_begins (body (length a) (command_rows way (length a))) v w a b x y (body_fills (command_rows way (length a)) v a (command_fills way v a p)) (subst (λ k. Fills (body k (command_rows way k)) w b) n (body_fills (command_rows way (length b)) w b (command_fills way w b q))) same
