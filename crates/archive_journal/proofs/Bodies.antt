-- A body after a gate.
use Rattle.std.proofs.Common.{◌≡◌, ℕ, ◌+◌, ◌<◌, true, List, length, get_or, take, drop, sym, ◌∙◌, ap, arith}
use Rattle.std.specs.Int.{w32, from_be_bytes}
use Rattle.std.proofs.lemmas.Bool.Decides.{nat_tests}
use Rattle.std.proofs.lemmas.List.{take-take}
use Rattle.archive_journal.specs.Body.{length_in, is_body}
use Rattle.archive_journal.specs.Entries.{size_at, body_at, is_entry}
use Rattle.archive_journal.proofs.Walks.{parts-entry}

pub body-length : (body : List ℕ) → is_body body ≡ true → length body ≡ 4 + length_in body
unfolding is_body
body-length body is = grind (arith, nat_tests, is)

-- a well-formed body comes after an open gate, and another gate after it
pub record IsWritten (body bytes : List ℕ) : Type 0 where
  pub is : is_entry bytes ≡ true
  pub size : size_at bytes ≡ 1 + length body
  pub is_there : body_at bytes ≡ body

front-length : (body bytes : List ℕ) → is_body body ≡ true → take (length body) (drop 1 bytes) ≡ body → length_in (drop 1 bytes) ≡ length_in body
unfolding length_in
front-length body bytes is there =
    let len = body-length body is in
    ap (λ (l : List ℕ). from_be_bytes w32 l) (sym (take-take 4 (length body) (drop 1 bytes) (omega arith)) ∙ ap (λ l. take 4 l) there)

pub written-entry : (body bytes : List ℕ) → get_or bytes 0 0 ≡ 0xA5 → take (length body) (drop 1 bytes) ≡ body → 1 + length body < length bytes → is_body body ≡ true → IsWritten body bytes
written-entry body bytes gate there next is =
    let len = body-length body is in
    let len_there = front-length body bytes is there in
    let at : body_at bytes ≡ body = ap (λ k. take k (drop 1 bytes)) (ap (λ k. 4 + k) len_there ∙ sym len) ∙ there in
    let size : size_at bytes ≡ 1 + length body = omega arith in
    record { is = parts-entry bytes (record { gate = gate; next = omega arith; body = ap is_body at ∙ is }); size = size; is_there = at }
