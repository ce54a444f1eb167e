-- The body that a reader lends after a whole frame.
use Rattle.std.proofs.Common.{◌≡◌, refl, ℕ, List, ◌++◌, take}
use Rattle.layout.specs.Bytes.{AreBytes}
use Rattle.layout.proofs.Numbers.{bytes-append, bytes-take}
use Rattle.frame_layout.specs.Values.{order, packet, response}
use Rattle.frame_layout.proofs.Exports.{down_item_is_said, up_item_is_said}
use Rattle.item_streams.specs.Readers.{Reader, more}
use Rattle.frame_channel.specs.DownPushes.{IsLentDown, PushedDown, decided_down}
use Rattle.frame_channel.specs.UpPushes.{IsLentUp, PushedUp, decided_up}
use Rattle.frame_channel.specs.declared.down_item.DownItem.{DownItem}
use Rattle.frame_channel.specs.declared.down_item.DownItem.TheVariants as down_item
use Rattle.frame_channel.specs.declared.up_item.UpItem.{UpItem}
use Rattle.frame_channel.specs.declared.up_item.UpItem.TheVariants as up_item

pub up_lent : (old new : Reader) (piece : List ℕ) (n : ℕ) (item : UpItem) → AreBytes old.have → AreBytes piece → PushedUp old new piece n item → IsLentUp item new.body
up_lent old new piece n up_item.More have bytes p = tt
up_lent old new piece n (up_item.Login imei) have bytes p = tt
up_lent old new piece n (up_item.Packet head) have bytes p =
    up_item_is_said old.after_first (packet head new.body) _ (old.have ++ take n piece) (bytes-append old.have (take n piece) have (bytes-take n piece bytes)) p.verdict
up_lent old new piece n up_item.Response have bytes p =
    up_item_is_said old.after_first (response new.body) _ (old.have ++ take n piece) (bytes-append old.have (take n piece) have (bytes-take n piece bytes)) p.verdict
up_lent old new piece n (up_item.Broken found) have bytes p = tt

pub down_lent : (old new : Reader) (piece : List ℕ) (n : ℕ) (item : DownItem) → AreBytes old.have → AreBytes piece → PushedDown old new piece n item → IsLentDown item new.body
down_lent old new piece n down_item.More have bytes p = tt
down_lent old new piece n (down_item.Login k) have bytes p = tt
down_lent old new piece n (down_item.Count k) have bytes p = tt
down_lent old new piece n down_item.Order have bytes p =
    down_item_is_said old.after_first (order new.body) _ (old.have ++ take n piece) (bytes-append old.have (take n piece) have (bytes-take n piece bytes)) p.verdict
down_lent old new piece n (down_item.Broken found) have bytes p = tt

-- an answer that decides
pub undecided_up : (item : UpItem) (body : List ℕ) → decided_up item body ≡ more → item ≡ up_item.More
undecided_up up_item.More body e = refl
undecided_up (up_item.Login imei) body e = absurd (cc)
undecided_up (up_item.Packet head) body e = absurd (cc)
undecided_up up_item.Response body e = absurd (cc)
undecided_up (up_item.Broken found) body e = absurd (cc)

pub undecided_down : (item : DownItem) (body : List ℕ) → decided_down item body ≡ more → item ≡ down_item.More
undecided_down down_item.More body e = refl
undecided_down (down_item.Login n) body e = absurd (cc)
undecided_down (down_item.Count n) body e = absurd (cc)
undecided_down down_item.Order body e = absurd (cc)
undecided_down (down_item.Broken found) body e = absurd (cc)
