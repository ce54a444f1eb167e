-- Pieces that are written one after the other.
use Rattle.std.proofs.Common.{◌≡◌, ℕ, List, ◌++◌, ap, ◌∙◌, append_assoc}

pub written3 : (o i1 i2 i3 a b c : List ℕ) → i1 ≡ o ++ a → i2 ≡ i1 ++ b → i3 ≡ i2 ++ c → i3 ≡ o ++ (a ++ (b ++ c))
written3 o i1 i2 i3 a b c e1 e2 e3 =
    e3 ∙ ap (λ l. l ++ c) (e2 ∙ ap (λ l. l ++ b) e1) ∙ append_assoc (o ++ a) b c ∙ append_assoc o a (b ++ c)

pub written6 : (o i1 i2 i3 i4 i5 i6 a b c d e f : List ℕ) → i1 ≡ o ++ a → i2 ≡ i1 ++ b → i3 ≡ i2 ++ c → i4 ≡ i3 ++ d → i5 ≡ i4 ++ e → i6 ≡ i5 ++ f
    → i6 ≡ o ++ (a ++ (b ++ (c ++ (d ++ (e ++ f)))))
written6 o i1 i2 i3 i4 i5 i6 a b c d e f e1 e2 e3 e4 e5 e6 =
    let back = written3 i3 i4 i5 i6 d e f e4 e5 e6 in
    back ∙ ap (λ l. l ++ (d ++ (e ++ f))) (written3 o i1 i2 i3 a b c e1 e2 e3)
    ∙ append_assoc o (a ++ (b ++ c)) (d ++ (e ++ f)) ∙ ap (λ l. o ++ l) (append_assoc a (b ++ c) (d ++ (e ++ f)) ∙ ap (λ l. a ++ l) (append_assoc b c (d ++ (e ++ f))))
