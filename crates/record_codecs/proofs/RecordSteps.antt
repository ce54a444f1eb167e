-- The record at the front of bytes.
use Rattle.std.proofs.Common.{◌≡◌, ℕ, List, [], length, take, Some, sym, ap, subst, ◌∙◌, arith}
use Rattle.std.proofs.Math.Seq.{take-length}
use Rattle.std.proofs.lemmas.List.{append-nil}
use Rattle.avl_values.specs.declared.codec.Codec.{Codec}
use Rattle.layout.specs.Bytes.{AreBytes}
use Rattle.layout.specs.Rows.{Verdict, judge, short, fault, whole, Fills}
use Rattle.layout.proofs.RowLaws.{filled}
use Rattle.record_layout.specs.RecordRows.{lone_record}
use Rattle.record_layout.specs.RecordsOf.{end_of, first_record}
use Rattle.record_layout.specs.SomeRecord.{IsSomeRecord}
use Rattle.record_layout.proofs.ReadLaws.{first_is}
use Rattle.record_layout.proofs.RecordFills.{lone_take}

-- Bytes are one record where the record at their front ends with them.

pub found_whole : (v : Verdict (Unit {0})) (n : ℕ) → Some n ≡ end_of v → v ≡ whole (tt {0}) n
found_whole (whole u n) m e = let k : m ≡ n = cc in ap (λ j. whole (tt {0}) j) (sym k)
found_whole short m e = absurd (cc)
found_whole (fault kind place) m e = absurd (cc)

pub some_from_front : (codec : Codec) (bytes : List ℕ) → AreBytes bytes → Some (length bytes) ≡ first_record codec bytes → IsSomeRecord codec bytes
some_from_front codec bytes p found =
    let f = filled (lone_record codec) 0 (length bytes) (tt {0}) bytes (found_whole (judge (lone_record codec) 0 bytes) (length bytes) found) in
    let n : f.0 ≡ length bytes = omega (arith, f.1) in
    lone_take codec (tt {0}) bytes p (subst (Fills (lone_record codec) (tt {0})) (ap (λ k. take k bytes) n ∙ take-length bytes) f.3)

pub front_from_some : (codec : Codec) (bytes : List ℕ) → IsSomeRecord codec bytes → first_record codec bytes ≡ Some (length bytes)
front_from_some codec bytes some = ap (first_record codec) (sym (append-nil bytes)) ∙ first_is codec bytes [] some
