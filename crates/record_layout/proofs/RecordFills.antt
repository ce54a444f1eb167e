-- Records and what fills their rows.
use Rattle.std.proofs.Common.{◌≡◌, ℕ, List, [], ◌++◌, sym, ap, subst, ◌∙◌}
use Rattle.std.proofs.lemmas.List.{append-nil}
use Rattle.avl_values.specs.declared.codec.Codec.{Codec}
use Rattle.layout.specs.Rows.{Rows, Fills}
use Rattle.layout.specs.Bytes.{AreBytes}
use Rattle.layout.proofs.Filling.{fills_done, done_filled}
use Rattle.record_layout.specs.Table.{parts_of}
use Rattle.record_layout.specs.RecordRows.{record_rows, lone_record}
use Rattle.record_layout.specs.Spelling.{PartValues, AllFit, joined, part_values}
use Rattle.record_layout.specs.SomeRecord.{IsSomeRecord}
use Rattle.record_layout.proofs.Table.{CountsFit, parts_fill, parts_take}
use Rattle.record_layout.proofs.Fitting.{counts_fit, has_value}

-- a record and what follows it fill the rows
pub record_fill : {V : Type 0} (codec : Codec) (r : List ℕ) (rest : Rows V) (v : V) (more : List ℕ) → IsSomeRecord codec r → Fills rest v more → Fills (record_rows codec rest) v (r ++ more)
record_fill codec r rest v more some fills =
    subst (λ b. Fills (record_rows codec rest) v (b ++ more)) (sym some.is.is)
    (parts_fill (parts_of codec) (part_values codec some.value) 0 0 rest v more some.is.fits (counts_fit codec some.value some.is.no_other) fills)

-- a record in front, and what follows it
pub record TakenRecord {V : Type 0} (codec : Codec) (rest : Rows V) (v : V) (bytes : List ℕ) : Type 0 where
  pub front : List ℕ
  pub more : List ℕ
  pub is : bytes ≡ front ++ more
  pub some : IsSomeRecord codec front
  pub fills : Fills rest v more

pub some_record : (codec : Codec) (values : PartValues (parts_of codec)) → AllFit (parts_of codec) values → CountsFit (parts_of codec) values 0 0 → IsSomeRecord codec (joined (parts_of codec) values)
some_record codec values fit counts =
    let h = has_value codec values fit counts in
    record {
      value = h.value;
      is = record {
        is = ap (joined (parts_of codec)) (sym h.same);
        fits = subst (AllFit (parts_of codec)) (sym h.same) fit;
        longitude = h.longitude;
        latitude = h.latitude;
        altitude = h.altitude;
        no_other = h.no_other;
      };
    }

pub record_take : {V : Type 0} (codec : Codec) (rest : Rows V) (v : V) (bytes : List ℕ) → AreBytes bytes → Fills (record_rows codec rest) v bytes → TakenRecord codec rest v bytes
record_take codec rest v bytes p fills =
    let t = parts_take (parts_of codec) 0 0 rest v bytes p fills in
    record { front = joined (parts_of codec) t.values; more = t.more; is = t.is; some = some_record codec t.values t.fit t.counts; fills = t.fills }

-- a record alone
pub lone_fill : (codec : Codec) (r : List ℕ) → IsSomeRecord codec r → Fills (lone_record codec) (tt {0}) r
lone_fill codec r some = subst (Fills (lone_record codec) (tt {0})) (append-nil r) (record_fill codec r _ (tt {0}) [] some (fills_done (tt {0})))

pub lone_take : (codec : Codec) (v : Unit {0}) (r : List ℕ) → AreBytes r → Fills (lone_record codec) v r → IsSomeRecord codec r
lone_take codec v r p fills =
    let t = record_take codec _ v r p fills in
    let none = done_filled _ _ t.more t.fills in
    subst (IsSomeRecord codec) (sym (t.is ∙ ap (λ m. t.front ++ m) none.1 ∙ append-nil t.front)) t.some
