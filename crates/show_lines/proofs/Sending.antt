-- What is sent to a serializer, token by token.
use Rattle.std.proofs.Common.{◌≡◌, ℕ, ℤ, Bool, List, [], ◌∷◌, ◌++◌, Some, None, Option, decimal, false, refl, sym, ap, ◌∙◌, subst, arith, append_assoc, append-nil}
use Rattle.std.proofs.lemmas.Grind.{common_steps}
use Rattle.std.specs.Fmt.{signed_decimal}
use Rattle.json.specs.Lex.{tokens}
use Rattle.json.specs.Print.{print}
use Rattle.json.specs.Token as json
use Rattle.json.specs.Token.{Token}
use Rattle.serde.specs.Event as event
use Rattle.serde.specs.Event.{Event, Log, Logs}
use Rattle.serde.specs.declared.name.Case.TheVariants.{AsIs}
use Rattle.serde.specs.declared.name.NameKind.TheVariants.{Field}
use Rattle.serde.proofs.Spellings.{spelled-AsIs}
use Rattle.serde_json.specs.Sent.{State, start, Takes, TakesAll, IsTextOf}
use Rattle.serde_json.proofs.FreeTexts.{tokens_by}
use Rattle.show_lines.specs.Sent.{Adds, AreWrittenAs, IsPlain, IsSentAs, Sends}

-- one event that is written as one token
abbrev IsWrittenAs : Token → Event → Type 0
IsWrittenAs t e = (old new : State) → IsPlain old → Takes old e new → Adds old (t ∷ []) new

one : (t : Token) (e : Event) (old new : Log) → IsWrittenAs t e → Logs old new e → Sends (t ∷ []) old new
one t e None new writes sent = record { sent = tt }
one t e (Some es) new writes sent = record { sent = (e ∷ [], sent, λ s m plain run. subst (Adds s (t ∷ [])) (sym run.2) (writes s run.0 plain run.1)) }

number_written : (n : ℕ) → IsWrittenAs (json.number (decimal n)) (event.unsigned n)
number_written n s m plain step = grind (arith, common_steps)

signed_written : (z : ℤ) → IsWrittenAs (json.number (signed_decimal z)) (event.signed z)
signed_written z s m plain step = grind (arith, common_steps)

boolean_written : (b : Bool) → IsWrittenAs (json.boolean b) (event.boolean b)
boolean_written b s m plain step = grind (arith, common_steps)

text_written : (t : List ℕ) → IsWrittenAs (json.string t) (event.text t)
text_written t s m plain step = grind (arith, common_steps)

nothing_written : IsWrittenAs json.null event.nothing
nothing_written s m plain step = grind (arith, common_steps)

array_begun : (n : Option ℕ) → IsWrittenAs json.begin_array (event.seq_begins n)
array_begun n s m plain step = grind (arith, common_steps)

array_ended : IsWrittenAs json.end_array event.seq_ends
array_ended s m plain step = grind (arith, common_steps)

key_written : (k : List ℕ) → IsWrittenAs (json.key k) (event.field_key k AsIs)
key_written k s m plain step = grind (arith, common_steps, spelled-AsIs Field k)

-- One event after another.

pub number_sent : (n : ℕ) (old new : Log) → Logs old new (event.unsigned n) → Sends (json.number (decimal n) ∷ []) old new
number_sent n old new sent = one (json.number (decimal n)) (event.unsigned n) old new (number_written n) sent

pub signed_sent : (z : ℤ) (old new : Log) → Logs old new (event.signed z) → Sends (json.number (signed_decimal z) ∷ []) old new
signed_sent z old new sent = one (json.number (signed_decimal z)) (event.signed z) old new (signed_written z) sent

pub boolean_sent : (b : Bool) (old new : Log) → Logs old new (event.boolean b) → Sends (json.boolean b ∷ []) old new
boolean_sent b old new sent = one (json.boolean b) (event.boolean b) old new (boolean_written b) sent

pub text_sent : (t : List ℕ) (old new : Log) → Logs old new (event.text t) → Sends (json.string t ∷ []) old new
text_sent t old new sent = one (json.string t) (event.text t) old new (text_written t) sent

pub nothing_sent : (old new : Log) → Logs old new event.nothing → Sends (json.null ∷ []) old new
nothing_sent old new sent = one json.null event.nothing old new nothing_written sent

pub array_begin_sent : (n : Option ℕ) (old new : Log) → Logs old new (event.seq_begins n) → Sends (json.begin_array ∷ []) old new
array_begin_sent n old new sent = one json.begin_array (event.seq_begins n) old new (array_begun n) sent

pub array_end_sent : (old new : Log) → Logs old new event.seq_ends → Sends (json.end_array ∷ []) old new
array_end_sent old new sent = one json.end_array event.seq_ends old new array_ended sent

pub key_sent : (k : List ℕ) (old new : Log) → Logs old new (event.field_key k AsIs) → Sends (json.key k ∷ []) old new
key_sent k old new sent = one (json.key k) (event.field_key k AsIs) old new (key_written k) sent

-- What was sent, and then more.

parts : (old new : State) (es more : List Event) → TakesAll old (es ++ more) new → (mid : State) × TakesAll old es mid × TakesAll mid more new
parts old new [] more run = (old, refl, run)
parts old new (e ∷ es) more run = let rest = parts run.0 new es more run.2 in (rest.0, (run.0, run.1, rest.1), rest.2)

both_added : (old mid new : State) (ts us : List Token) → Adds old ts mid → Adds mid us new → Adds old (ts ++ us) new
both_added old mid new ts us first second =
    record { plain = second.plain; added = second.added ∙ ap (λ xs. xs ++ us) first.added ∙ append_assoc old.tokens ts us }

both_written : (ts us : List Token) (es more : List Event) → AreWrittenAs ts es → AreWrittenAs us more → AreWrittenAs (ts ++ us) (es ++ more)
both_written ts us es more first second old new plain run =
    let p = parts old new es more run in
    let a = first old p.0 plain p.1 in
    both_added old p.0 new ts us a (second p.0 new a.plain p.2)

both_sent : (ts us : List Token) (old mid new : Log) → IsSentAs ts old mid → IsSentAs us mid new → IsSentAs (ts ++ us) old new
both_sent ts us None mid new first second = tt
both_sent ts us (Some es) mid new first second =
    let more = subst (λ l. IsSentAs us l new) first.1 second in
    (first.0 ++ more.0, more.1 ∙ ap Some (append_assoc es first.0 more.0), both_written ts us first.0 more.0 first.2 more.2)

pub after : {ts us : List Token} {old mid new : Log} → Sends ts old mid → Sends us mid new → Sends (ts ++ us) old new
after {ts} {us} {old} {mid} {new} first second = record { sent = both_sent ts us old mid new first.sent second.sent }

-- nothing is sent
pub none_sent : (old : Log) → Sends [] old old
none_sent None = record { sent = tt }
none_sent (Some es) = record { sent = ([], ap Some (sym (append-nil es)), λ s m plain run. record { plain = subst IsPlain (sym run) plain; added = ap (λ x. x.tokens) run ∙ sym (append-nil s.tokens) }) }

-- the text of what was sent to a serializer that began with no events
pub text_of : (ts : List Token) (log : Log) (text : List ℕ) → Sends ts (Some []) log → IsTextOf log text → text ≡ print ts
text_of ts log text sent is =
    let known = sent.sent in
    is.1 ∙ ap print (tokens_by false known.0 log (tokens text) ts known.1 is.0 (λ s run. (known.2 (start false) s (record { no_key = refl; no_flattened = refl; no_flat = refl }) run).added))

-- the same tokens, said in another way
pub said_as : {ts us : List Token} {old new : Log} → ts ≡ us → Sends ts old new → Sends us old new
said_as {ts} {us} {old} {new} same sent = subst (λ xs. Sends xs old new) same sent
