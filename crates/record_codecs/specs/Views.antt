-- What iterators over bodies and records still yield, read from the bytes that are left.
use Rattle.std.specs.Prelude.{ℕ, List, ◌++◌}
use Rattle.avl_values.specs.IoElement.{IoElement}
use Rattle.record_layout.specs.RecordsOf.{records_in}
use Rattle.record_codecs.specs.declared.elements.Ios.{Ios}
use Rattle.record_codecs.specs.declared.elements.Nxs.{Nxs}
use Rattle.record_codecs.specs.declared.record_iter.Records.{Records}
use Rattle.record_codecs.specs.Elements.{pairs_in, behind_pairs, groups_in, nx_in}

-- the records that an iterator over them still yields
abbrev pub records_left : Records → List (List ℕ)
records_left r = records_in r.codec r.left r.rest.now

-- the elements of 1, 2, 4 and 8 bytes
abbrev pub ios_left : Ios → List IoElement
ios_left s = pairs_in s.codec s.width s.left s.rest.now ++ groups_in s.codec s.groups.now (behind_pairs s.codec s.width s.left s.rest.now)

-- the elements of any length
abbrev pub nx_left : Nxs → List (ℕ × List ℕ)
nx_left s = nx_in s.left s.rest.now
