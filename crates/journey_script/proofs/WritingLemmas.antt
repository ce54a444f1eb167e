-- Words joined one after the other.
use Rattle.std.proofs.Common.{◌≡◌, ℕ, ◌+◌, ◌<◌, List, [], ◌∷◌, ◌++◌, map, take, length, get_or, codes, decimal, sym, ap, ◌∙◌, append_assoc}
use Rattle.std.proofs.lemmas.List.{append-nil, map_push, take_more}
use Rattle.std.specs.List.{join_with_byte}
use Rattle.avl_values.specs.Imei.{imei_text}
use Rattle.journey_script.specs.declared.compact.CompactFix.{CompactFix}
use Rattle.journey_script.specs.Compact.{fix_line}
use Rattle.journey_script.specs.Table.{spell_field, value_kind}
use Rattle.journey_script.specs.Writing.{spelled}
use Rattle.journey_script.specs.WrittenText.{after_words, motion_text, place_text}

-- a word, and the others after it
pub joined : (word : List ℕ) (words : List (List ℕ)) → join_with_byte 32 (word ∷ words) ≡ word ++ after_words words
joined word [] = sym (append-nil word)
joined word (next ∷ words) = ap (λ (xs : List ℕ). word ++ (32 ∷ xs)) (joined next words)

pub after_push : (words : List (List ℕ)) (word : List ℕ) → after_words (words ++ word ∷ []) ≡ after_words words ++ (32 ∷ word)
after_push [] word = ap (λ (xs : List ℕ). 32 ∷ xs) (append-nil word)
after_push (w ∷ words) word = ap (λ (xs : List ℕ). 32 ∷ (w ++ xs)) (after_push words word) ∙ ap (λ (xs : List ℕ). 32 ∷ xs) (sym (append_assoc w (after_words words) (32 ∷ word)))

pub values_push : (front values : List ℕ) (k : ℕ) → k < length values → (front ++ after_words (map (spell_field value_kind) (take k values))) ++ (32 ∷ decimal (get_or values k 0))
    ≡ front ++ after_words (map (spell_field value_kind) (take (k + 1) values))
values_push front values k h =
    append_assoc front _ _ ∙ ap (λ (xs : List ℕ). front ++ xs) (sym (after_push (map (spell_field value_kind) (take k values)) (decimal (get_or values k 0)))
    ∙ ap after_words (sym (map_push (spell_field value_kind) (take k values) (get_or values k 0)) ∙ ap (λ (vs : List ℕ). map (spell_field value_kind) vs) (sym (take_more values k 0 h))))

pub fix_spelled : (imei : ℕ) (fix : CompactFix) → spelled (fix_line imei fix) ≡ codes "fix" ++ (32 ∷ (imei_text imei ++ (32 ∷ (decimal fix.time
    ++ (place_text fix.gps ++ (motion_text fix.gps ++ (32 ∷ (decimal fix.odometer ++ after_words (map (spell_field value_kind) fix.values.items)))))))))
unfolding spelled
fix_spelled imei fix = rw (joined (decimal fix.odometer) (map (spell_field value_kind) fix.values.items)) (simp append_assoc)
