-- What clap's matches say of the words of `serve`, getter by getter.
use Rattle.std.proofs.Common.{◌≡◌, ◌∙◌, List, [], Option, Some, None, Bor, map, option_map, unwrap_or, codes, refl, sym, ap}
use Rattle.clap.proofs.WalkLemmas.{first_value-rows, raw_values-rows}
use Rattle.clap.specs.Words.{Row, Text, all_of, first_of, first_value, matched_of, raw_values, rows_of}
use Rattle.clap.specs.declared.parser.matches.Found.{Found}
use Rattle.fmb_words.specs.Words.{serve_given, serve_read}

pub given : (rows : List Row) (address archive workers sessions : Option Text) (imeis : List Text) → first_of (codes "ADDRESS") rows ≡ address
    → first_of (codes "ARCHIVE") rows ≡ archive → unwrap_or (all_of (codes "IMEI") rows) [] ≡ imeis → first_of (codes "workers") rows ≡ workers
    → first_of (codes "sessions") rows ≡ sessions → serve_read rows ≡ serve_given address archive imeis workers sessions
unfolding serve_read
given rows address archive workers sessions imeis a f is w k = λ i. serve_given (a i) (f i) (is i) (w i) (k i)

module _ (found : Found) (id : Text) where
  pub value_given : (read known : Option (Bor Text)) → option_map (λ s. s.now) read ≡ first_value found id → read ≡ known → first_of id (rows_of found) ≡ option_map (λ s. s.now) known
  value_given read known says is = sym (first_value-rows found id) ∙ sym says ∙ ap (option_map (λ s. s.now)) is

  pub values_given : (read : Option (Bor (List (Bor Text)))) (none taken : Bor (List (Bor Text))) → option_map (λ s. map (λ v. v.now) s.now) read ≡ option_map raw_values (matched_of found id)
      → taken ≡ unwrap_or read none → none.now ≡ [] → unwrap_or (all_of id (rows_of found)) [] ≡ map (λ v. v.now) taken.now
  values_given read none taken says is empty = ap (λ o. unwrap_or o []) (sym (raw_values-rows found id) ∙ sym says) ∙ go read ∙ ap (λ s. map (λ v. v.now) s.now) (sym is)
    where
      go : (o : Option (Bor (List (Bor Text)))) → unwrap_or (option_map (λ s. map (λ v. v.now) s.now) o) [] ≡ map (λ v. v.now) (unwrap_or o none).now
      go None = ap (map (λ v. v.now)) (sym empty)
      go (Some s) = refl
