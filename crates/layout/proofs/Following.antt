-- Rows that are followed by others, for code that goes over them field by field.
use Rattle.std.proofs.Common.{◌≡◌, ℕ, List, Some, refl}
use Rattle.layout.specs.Rows.{Rows, done, refuse, row}
use Rattle.layout.specs.Fields.{followed_by}
use Rattle.layout.specs.Next.{width_of, rule_of, rows_after}

pub follow_done : {V W : Type 0} (v : V) (after : V → Rows W) → followed_by (done v) after ≡ after v
unfolding followed_by
follow_done v after = refl

pub follow_width : {V W : Type 0} (rows : Rows V) (after : V → Rows W) (n : ℕ) → width_of rows ≡ Some n → width_of (followed_by rows after) ≡ Some n
unfolding followed_by
follow_width (done v) after n e = absurd (cc)
follow_width (refuse kind) after n e = absurd (cc)
follow_width (row width rule rest) after n e = e

pub follow_rule : {V W : Type 0} (rows : Rows V) (after : V → Rows W) (n : ℕ) (field : List ℕ) → width_of rows ≡ Some n → rule_of (followed_by rows after) field ≡ rule_of rows field
unfolding followed_by
follow_rule (done v) after n field e = absurd (cc)
follow_rule (refuse kind) after n field e = absurd (cc)
follow_rule (row width rule rest) after n field e = refl

pub follow_after : {V W : Type 0} (rows : Rows V) (after : V → Rows W) (n : ℕ) (field : List ℕ) → width_of rows ≡ Some n → rows_after (followed_by rows after) field ≡ followed_by (rows_after rows field) after
unfolding followed_by
follow_after (done v) after n field e = absurd (cc)
follow_after (refuse kind) after n field e = absurd (cc)
follow_after (row width rule rest) after n field e = refl
