-- What clap's matches say of the words of `drive`.
use Rattle.std.proofs.Common.{◌≡◌, List, Option, codes}
use Rattle.clap.specs.Words.{Row, Text, first_of}
use Rattle.fmb_words.specs.Words.{drive_given, drive_read}

pub drive_asked : (rows : List Row) (address flash script : Option Text) → first_of (codes "ADDRESS") rows ≡ address → first_of (codes "FLASH") rows ≡ flash
    → first_of (codes "SCRIPT") rows ≡ script → drive_read rows ≡ drive_given address flash script
unfolding drive_read
drive_asked rows address flash script a f s = λ i. drive_given (a i) (f i) (s i)
