use Rattle.std.proofs.Common.{◌≡◌, ℕ, ◌-◌, ◌<◌, ◌∷◌, length, ap, sym, ◌∙◌, rules}
use Rattle.avl_values.specs.IoElement.{IoElement}
use Rattle.record_layout.specs.Table.{id_width}
use Rattle.record_codecs.specs.Elements.{front_number, behind}
use Rattle.record_codecs.proofs.Groups.{next_pair, left_of}
use Rattle.record_codecs.proofs.elements.IosIterator.next.Goals as goal

pub returns-clause-steps : goal.returns-clause-steps
returns-clause-steps c =
    let s = c.find_group.new.self in
    let some : 0 < s.left = search rules in
    let bytes = s.rest.now in
    let rest = c.split_number-value.result.1.now in
    let id_rest : c.split_number-id.result.1.now ≡ behind (id_width s.codec) bytes = c.split_number-id.ensures.back ∙ ap (λ w. behind w bytes) c.id_width.ensures in
    let is : rest ≡ behind s.width (behind (id_width s.codec) bytes) = c.split_number-value.ensures.back ∙ ap (behind s.width) id_rest in
    let id : c.split_number-id.result.0 ≡ front_number (id_width s.codec) bytes = c.split_number-id.ensures.value ∙ ap (λ w. front_number w bytes) c.id_width.ensures in
    let value : c.split_number-value.result.0 ≡ front_number s.width (behind (id_width s.codec) bytes) = c.split_number-value.ensures.value ∙ ap (front_number s.width) id_rest in
    let E : ℕ → ℕ → IoElement = λ i v. record { id = i; width = s.width; value = v } in
    let made : E (front_number (id_width s.codec) bytes) (front_number s.width (behind (id_width s.codec) bytes)) ≡ c.element.result =
    ap (λ i. E i (front_number s.width (behind (id_width s.codec) bytes))) (sym id) ∙ ap (E c.split_number-id.result.0) (sym value) ∙ sym c.element.ensures in
    c.find_group.ensures.same ∙ next_pair s.codec s.width s.left s.groups.now bytes rest some is ∙ ap (λ e. e ∷ left_of s.codec s.width (s.left - 1) s.groups.now rest) made

pub returns-clause-goes : goal.returns-clause-goes
returns-clause-goes c = let e = returns-clause-steps c in let n = ap length e in search rules
