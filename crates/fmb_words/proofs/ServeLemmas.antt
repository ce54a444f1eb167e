-- What clap makes of the words of `serve`.
use Rattle.std.proofs.Common.{◌≡◌, ◌<◌, ◌^◌, ◌∙◌, false, List, [], ◌∷◌, ◌++◌, length, Some, None, refl, sym, ap, codes, nat_lt, append_assoc, append-nil, arith, le-ltb, inl, inr, subst, unwrap_or}
use Rattle.clap.specs.Words.{Row, Text, all_of, built, fault_of, first_of, matches_of}
use Rattle.clap.specs.Kinds.{values_kinds}
use Rattle.clap.specs.Simple.{Shape}
use Rattle.clap.specs.Walk.{Walk, arg_by_id, idle, nothing_held, positional, used_by_id, walk_from}
use Rattle.clap.specs.declared.builder.value_parser.ValueParser.TheVariants as vp
use Rattle.clap.proofs.OnLiterals.{clap_on_literals}
use Rattle.fmb_words.specs.Commands.{serve_app}
use Rattle.fmb_words.specs.PlainWords.{AreOptions, ArePlainWords, IsPlainWord, IsServeForm}
use Rattle.fmb_words.proofs.PlainLemmas.{no_dashes, no_hyphen, no_short}
use Rattle.fmb_words.proofs.Steps.{Passes, fault_from, fault_step, rows_from, rows_step, whole_fault, whole_rows}

abbrev pub shape : Shape
unfolding serve_app
shape = (built serve_app).top

abbrev pub rows1 : Text → List Row
rows1 address = used_by_id (arg_by_id shape.rules (codes "ADDRESS")) (address ∷ []) []

abbrev pub rows2 : Text → Text → List Row
rows2 address archive = used_by_id (arg_by_id shape.rules (codes "ARCHIVE")) (archive ∷ []) (rows1 address)

abbrev pub walk1 : Text → Walk
walk1 address = record {
  held = record { rows = []; pending = Some (codes "ADDRESS", address ∷ []); skip = 0 };
  waiting = idle;
  position = 2;
  is_trailing = false;
  stopped = None;
}

abbrev pub walk2 : Text → Text → Walk
walk2 address archive = record {
  held = record { rows = rows1 address; pending = Some (codes "ARCHIVE", archive ∷ []); skip = 0 };
  waiting = idle;
  position = 3;
  is_trailing = false;
  stopped = None;
}

abbrev pub walk3 : Text → Text → List Text → Walk
walk3 address archive imeis = record {
  held = record { rows = rows2 address archive; pending = Some (codes "IMEI", imeis); skip = 0 };
  waiting = positional;
  position = 3;
  is_trailing = false;
  stopped = None;
}

pub address_passes : (address : Text) → IsPlainWord address → Passes shape (walk_from nothing_held) address (walk1 address)
unfolding serve_app clap_on_literals
address_passes address h = record {
  fault = rw (no_hyphen address h, no_dashes address h, no_short address h) refl;
  after = rw (no_hyphen address h, no_dashes address h, no_short address h) refl;
}

pub archive_passes : (address archive : Text) → IsPlainWord archive → Passes shape (walk1 address) archive (walk2 address archive)
unfolding serve_app clap_on_literals
archive_passes address archive h = record {
  fault = rw (no_hyphen archive h, no_dashes archive h, no_short archive h) refl;
  after = rw (no_hyphen archive h, no_dashes archive h, no_short archive h) refl;
}

pub first_passes : (address archive imei : Text) → IsPlainWord imei → Passes shape (walk2 address archive) imei (walk3 address archive (imei ∷ []))
unfolding serve_app clap_on_literals
first_passes address archive imei h = record {
  fault = rw (no_hyphen imei h, no_dashes imei h, no_short imei h) refl;
  after = rw (no_hyphen imei h, no_dashes imei h, no_short imei h) refl;
}

pub later_passes : (address archive : Text) (imeis : List Text) (imei : Text) → IsPlainWord imei
    → Passes shape (walk3 address archive imeis) imei (walk3 address archive (imeis ++ imei ∷ []))
unfolding serve_app clap_on_literals
later_passes address archive imeis imei h = record {
  fault = rw (no_hyphen imei h, no_dashes imei h, no_short imei h) refl;
  after = rw (no_hyphen imei h, no_dashes imei h, no_short imei h) refl;
}

pub imeis_fault : (address archive : Text) (before imeis rest : List Text) → ArePlainWords imeis
    → fault_from shape (walk3 address archive before) (imeis ++ rest) ≡ fault_from shape (walk3 address archive (before ++ imeis)) rest
imeis_fault address archive before [] rest h = ap (λ xs. fault_from shape (walk3 address archive xs) rest) (sym (append-nil before))
imeis_fault address archive before (i ∷ is) rest h =
    fault_step shape _ i _ (is ++ rest) (later_passes address archive before i h.0)
    ∙ imeis_fault address archive (before ++ i ∷ []) is rest h.1
    ∙ ap (λ xs. fault_from shape (walk3 address archive xs) rest) (append_assoc before (i ∷ []) is)

pub imeis_rows : (address archive : Text) (before imeis rest : List Text) → ArePlainWords imeis
    → rows_from shape (walk3 address archive before) (imeis ++ rest) ≡ rows_from shape (walk3 address archive (before ++ imeis)) rest
imeis_rows address archive before [] rest h = ap (λ xs. rows_from shape (walk3 address archive xs) rest) (sym (append-nil before))
imeis_rows address archive before (i ∷ is) rest h =
    rows_step shape _ i _ (is ++ rest) (later_passes address archive before i h.0)
    ∙ imeis_rows address archive (before ++ i ∷ []) is rest h.1
    ∙ ap (λ xs. rows_from shape (walk3 address archive xs) rest) (append_assoc before (i ∷ []) is)

pub all_accepted : (xs : List Text) → values_kinds false vp.String xs ≡ []
all_accepted [] = refl
all_accepted (x ∷ xs) = all_accepted xs

-- the words were read as these values
pub record ReadsServe (rows : List Row) (address archive : Text) (imeis : List Text) (workers sessions : Text) : Type 0 where
  pub address_is : first_of (codes "ADDRESS") rows ≡ Some address
  pub archive_is : first_of (codes "ARCHIVE") rows ≡ Some archive
  pub imeis_are : unwrap_or (all_of (codes "IMEI") rows) [] ≡ imeis
  pub workers_is : first_of (codes "workers") rows ≡ Some workers
  pub sessions_is : first_of (codes "sessions") rows ≡ Some sessions

abbrev pub Taken : Walk → List Text → Text → Text → List Text → Text → Text → Type 0
Taken w words address archive imeis workers sessions =
    (fault_from shape w words ≡ []) × ReadsServe (rows_from shape w words) address archive imeis workers sessions

module _ (address archive w k : Text) (hw : IsPlainWord w) (hk : IsPlainWord k) where
  abbrev wk : List Text
  wk = codes "--workers" ∷ w ∷ codes "--sessions" ∷ k ∷ []

  abbrev kw : List Text
  kw = codes "--sessions" ∷ k ∷ codes "--workers" ∷ w ∷ []

  -- the options with no IMEI before them
  none_wk : Taken (walk2 address archive) wk address archive [] w k
  unfolding serve_app clap_on_literals
  none_wk = (
    rw (no_hyphen w hw, no_dashes w hw, no_short w hw, no_hyphen k hk, no_dashes k hk, no_short k hk) (refl {a = []}),
    record {
      address_is = rw (no_hyphen w hw, no_dashes w hw, no_short w hw, no_hyphen k hk, no_dashes k hk, no_short k hk) (refl {a = Some address});
      archive_is = rw (no_hyphen w hw, no_dashes w hw, no_short w hw, no_hyphen k hk, no_dashes k hk, no_short k hk) (refl {a = Some archive});
      imeis_are = rw (no_hyphen w hw, no_dashes w hw, no_short w hw, no_hyphen k hk, no_dashes k hk, no_short k hk) refl;
      workers_is = rw (no_hyphen w hw, no_dashes w hw, no_short w hw, no_hyphen k hk, no_dashes k hk, no_short k hk) (refl {a = Some w});
      sessions_is = rw (no_hyphen w hw, no_dashes w hw, no_short w hw, no_hyphen k hk, no_dashes k hk, no_short k hk) (refl {a = Some k});
    },
  )

  none_kw : Taken (walk2 address archive) kw address archive [] w k
  unfolding serve_app clap_on_literals
  none_kw = (
    rw (no_hyphen k hk, no_dashes k hk, no_short k hk, no_hyphen w hw, no_dashes w hw, no_short w hw) (refl {a = []}),
    record {
      address_is = rw (no_hyphen k hk, no_dashes k hk, no_short k hk, no_hyphen w hw, no_dashes w hw, no_short w hw) (refl {a = Some address});
      archive_is = rw (no_hyphen k hk, no_dashes k hk, no_short k hk, no_hyphen w hw, no_dashes w hw, no_short w hw) (refl {a = Some archive});
      imeis_are = rw (no_hyphen k hk, no_dashes k hk, no_short k hk, no_hyphen w hw, no_dashes w hw, no_short w hw) refl;
      workers_is = rw (no_hyphen k hk, no_dashes k hk, no_short k hk, no_hyphen w hw, no_dashes w hw, no_short w hw) (refl {a = Some w});
      sessions_is = rw (no_hyphen k hk, no_dashes k hk, no_short k hk, no_hyphen w hw, no_dashes w hw, no_short w hw) (refl {a = Some k});
    },
  )

  -- and after some
  some_wk : (i : Text) (is : List Text) → length is < 2 ^ 63 → Taken (walk3 address archive (i ∷ is)) wk address archive (i ∷ is) w k
  unfolding serve_app clap_on_literals
  some_wk i is few =
      let some : nat_lt (length (i ∷ is)) 0 ≡ false = le-ltb _ _ (omega arith) in
      let most : nat_lt 18446744073709551615 (length (i ∷ is)) ≡ false = le-ltb _ _ (omega arith) in (
        rw (some, most, all_accepted is, no_hyphen w hw, no_dashes w hw, no_short w hw, no_hyphen k hk, no_dashes k hk, no_short k hk) (refl {a = []}),
        record {
          address_is = rw (no_hyphen w hw, no_dashes w hw, no_short w hw, no_hyphen k hk, no_dashes k hk, no_short k hk) (refl {a = Some address});
          archive_is = rw (no_hyphen w hw, no_dashes w hw, no_short w hw, no_hyphen k hk, no_dashes k hk, no_short k hk) (refl {a = Some archive});
          imeis_are = rw (no_hyphen w hw, no_dashes w hw, no_short w hw, no_hyphen k hk, no_dashes k hk, no_short k hk) refl;
          workers_is = rw (no_hyphen w hw, no_dashes w hw, no_short w hw, no_hyphen k hk, no_dashes k hk, no_short k hk) (refl {a = Some w});
          sessions_is = rw (no_hyphen w hw, no_dashes w hw, no_short w hw, no_hyphen k hk, no_dashes k hk, no_short k hk) (refl {a = Some k});
        },
      )

  some_kw : (i : Text) (is : List Text) → length is < 2 ^ 63 → Taken (walk3 address archive (i ∷ is)) kw address archive (i ∷ is) w k
  unfolding serve_app clap_on_literals
  some_kw i is few =
      let some : nat_lt (length (i ∷ is)) 0 ≡ false = le-ltb _ _ (omega arith) in
      let most : nat_lt 18446744073709551615 (length (i ∷ is)) ≡ false = le-ltb _ _ (omega arith) in (
        rw (some, most, all_accepted is, no_hyphen k hk, no_dashes k hk, no_short k hk, no_hyphen w hw, no_dashes w hw, no_short w hw) (refl {a = []}),
        record {
          address_is = rw (no_hyphen k hk, no_dashes k hk, no_short k hk, no_hyphen w hw, no_dashes w hw, no_short w hw) (refl {a = Some address});
          archive_is = rw (no_hyphen k hk, no_dashes k hk, no_short k hk, no_hyphen w hw, no_dashes w hw, no_short w hw) (refl {a = Some archive});
          imeis_are = rw (no_hyphen k hk, no_dashes k hk, no_short k hk, no_hyphen w hw, no_dashes w hw, no_short w hw) refl;
          workers_is = rw (no_hyphen k hk, no_dashes k hk, no_short k hk, no_hyphen w hw, no_dashes w hw, no_short w hw) (refl {a = Some w});
          sessions_is = rw (no_hyphen k hk, no_dashes k hk, no_short k hk, no_hyphen w hw, no_dashes w hw, no_short w hw) (refl {a = Some k});
        },
      )

  -- the options, in either order, after any IMEIs
  after_imeis : (imeis options : List Text) → ArePlainWords imeis → length imeis < 2 ^ 63 → AreOptions options w k
      → Taken (walk2 address archive) (imeis ++ options) address archive imeis w k
  after_imeis [] options h few (inl e) = subst (λ o. Taken (walk2 address archive) o address archive [] w k) (sym e) none_wk
  after_imeis [] options h few (inr e) = subst (λ o. Taken (walk2 address archive) o address archive [] w k) (sym e) none_kw
  after_imeis (i ∷ is) options h few o =
      let first = first_passes address archive i h.0 in
      let last : Taken (walk3 address archive (i ∷ is)) options address archive (i ∷ is) w k = elim o [
        | inl e ↦ subst (λ o. Taken (walk3 address archive (i ∷ is)) o address archive (i ∷ is) w k) (sym e) (some_wk i is (omega arith))
        | inr e ↦ subst (λ o. Taken (walk3 address archive (i ∷ is)) o address archive (i ∷ is) w k) (sym e) (some_kw i is (omega arith))
      ] in (
        fault_step shape _ i _ (is ++ options) first ∙ imeis_fault address archive (i ∷ []) is options h.1 ∙ last.0,
        subst (λ rows. ReadsServe rows address archive (i ∷ is) w k)
            (sym (rows_step shape _ i _ (is ++ options) first ∙ imeis_rows address archive (i ∷ []) is options h.1)) last.1,
      )

serve_is_built : built serve_app ≡ record { top = shape; subs = [] }
unfolding serve_app
serve_is_built = refl

serve_is_named : serve_app.top.no_binary_name ≡ false
unfolding serve_app
serve_is_named = refl

-- words of the form of `serve` are refused for memory alone, and are read as they stand
pub serve_taken : (command : Text) (words : List Text) (address archive : Text) (imeis : List Text) (workers sessions : Text)
    → IsServeForm words address archive imeis workers sessions
    → (fault_of serve_app (command ∷ words) ≡ []) × ReadsServe (matches_of serve_app (command ∷ words)) address archive imeis workers sessions
serve_taken command words address archive imeis w k f =
    let rest = imeis ++ f.options in
    let end = after_imeis address archive w k f.workers_plain f.sessions_plain imeis f.options f.imeis_plain f.few f.options_are in
    let one = address_passes address f.address_plain in
    let two = archive_passes address archive f.archive_plain in (
      whole_fault serve_app shape serve_is_built serve_is_named command words ∙ ap (λ ws. fault_from shape (walk_from nothing_held) ws) f.words_are
          ∙ fault_step shape _ address _ (archive ∷ rest) one ∙ fault_step shape _ archive _ rest two ∙ end.0,
      subst (λ rows. ReadsServe rows address archive imeis w k)
          (sym (whole_rows serve_app shape serve_is_built serve_is_named command words ∙ ap (λ ws. rows_from shape (walk_from nothing_held) ws) f.words_are
          ∙ rows_step shape _ address _ (archive ∷ rest) one ∙ rows_step shape _ archive _ rest two)) end.1,
    )
