use Rattle.std.proofs.Common.{◌≡◌, ◌+◌, ◌*◌, [], ◌∷◌, ◌++◌, length, sym, ap, ◌∙◌, arith, rules}
use Rattle.avl_values.specs.NxElements.{nx_size, nx_elements}
use Rattle.avl_values.proofs.NxLists.{sizes, nx-size, nx-push}
use Rattle.avl_values.proofs.nx_list.NxList.push.Goals as goal
use Rattle.avl_values.proofs.nx_list.NxList.push.Goals.{then-used-gt217-via-then-used-gt217, then-used-gt217-via-else-used-gt217+then-bytes-used}

pub returns-then-used-gt217-clause-fits : goal.returns-then-used-gt217-clause-fits
returns-then-used-gt217-clause-fits c =
    let size : nx_size c.args.self.now ≡ 4 * length c.self.inside.heads.items + sizes c.self.inside.heads.items =
    ap nx_size (sym c.self.view_is) ∙ nx-size c.self.inside.heads.items c.self.inside.bytes.items (omega (arith, c.self.invariant.0)) in
    let exact : sizes c.self.inside.heads.items ≡ length c.self.inside.bytes.items = c.self.invariant.0 in
    elim c.then-used-gt217.branch [
      | then-used-gt217-via-then-used-gt217 w ↦ (search rules, λ h. absurd (omega (arith, size, exact, c.len.ensures.value, c.len-2.ensures.value, h)))
      | then-used-gt217-via-else-used-gt217+then-bytes-used w ↦ (search rules, λ h. absurd (omega (arith, size, exact, c.len.ensures.value, c.len-2.ensures.value, h)))
    ]

pub returns-clause-fits : goal.returns-clause-fits
returns-clause-fits c =
    let size : nx_size c.args.self.now ≡ 4 * length c.self.inside.heads.items + sizes c.self.inside.heads.items =
    ap nx_size (sym c.self.view_is) ∙ nx-size c.self.inside.heads.items c.self.inside.bytes.items (omega (arith, c.self.invariant.0)) in
    let exact : sizes c.self.inside.heads.items ≡ length c.self.inside.bytes.items = c.self.invariant.0 in
    (λ h. omega (arith, size, exact, c.len.ensures.value, c.len-2.ensures.value), search rules)

pub returns-clause-added : goal.returns-clause-added
returns-clause-added c =
    let hs = c.self.inside.heads.items in
    let bs = c.self.inside.bytes.items in
    let more = c.args.bytes.now in
    ap (λ h. nx_elements h c.try_extend_from_slice-added.new.self.items) c.push.ensures.items
    ∙ ap (λ b. nx_elements (hs ++ (c.args.id, length more) ∷ []) b) (search rules)
    ∙ nx-push hs bs c.args.id more c.self.invariant.0 ∙ ap (λ l. l ++ (c.args.id, more) ∷ []) c.self.view_is
