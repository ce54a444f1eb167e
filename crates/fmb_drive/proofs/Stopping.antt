-- Why a drive ended, and the line that says so.
use Rattle.std.proofs.Common.{◌≡◌, inl, inr, ℕ, List, sym, subst, arith}
use Rattle.std.specs.Prelude.{Err, IfOk, Ok, OnErr, Result, codes}
use Rattle.avl_values.specs.declared.errors.NoMemory.{NoMemory}
use Rattle.fmb_drive.specs.Drive.{refusal_line, size}
use Rattle.fmb_drive.specs.Ending.{EndsEarly}
use Rattle.fmb_drive.specs.declared.stop.Stop.{Stop}
use Rattle.fmb_drive.specs.declared.stop.Stop.TheVariants as stop
use Rattle.fmb_host.specs.Host.{HostView}
use Rattle.fmb_io.specs.Printed.{Prints}

module _ (s : Stop) (status : ℕ) (x y : HostView) (others : y ≡ record x { sink = y.sink }) where
  pub early_medium : s ≡ stop.MediumFault → status ≡ 6 → Prints (codes "medium fault\n") x y → EndsEarly s status x y
  early_medium is six line = subst (λ (t : Stop). EndsEarly t status x y) (sym is) (record {
    among = inl six;
    sink_fault = λ e. absurd (cc);
    medium_fault = λ e. six;
    host_fault = λ e. absurd (cc);
    line = λ e. line;
    no_memory = λ e. absurd (omega (arith, six, e));
    others = others;
  })

  pub early_host : s ≡ stop.HostFault → status ≡ 7 → Prints (codes "host fault\n") x y → EndsEarly s status x y
  early_host is seven line = subst (λ (t : Stop). EndsEarly t status x y) (sym is) (record {
    among = inl seven;
    sink_fault = λ e. absurd (cc);
    medium_fault = λ e. absurd (cc);
    host_fault = λ e. seven;
    line = λ e. line;
    no_memory = λ e. absurd (omega (arith, seven, e));
    others = others;
  })

  pub early_sequence : s ≡ stop.Sequence → status ≡ 8 → Prints (codes "refused flash sequence\n") x y → EndsEarly s status x y
  unfolding refusal_line
  early_sequence is eight line = subst (λ (t : Stop). EndsEarly t status x y) (sym is) (record {
    among = inl eight;
    sink_fault = λ e. absurd (cc);
    medium_fault = λ e. absurd (cc);
    host_fault = λ e. absurd (cc);
    line = λ e. line;
    no_memory = λ e. absurd (omega (arith, eight, e));
    others = others;
  })

-- the flash's size is another, or memory ran out for the line that says so
pub early_size : {V : Type 0} (text : Result V NoMemory) (items : V → List ℕ) (s : Stop) (got wanted status : ℕ) (x y : HostView) → s ≡ stop.Size got wanted → IfOk text (λ l. items l ≡ refusal_line (size got wanted)) → IfOk text (λ l. status ≡ 8)
    → IfOk text (λ l. Prints (items l) x y) → OnErr text (status ≡ 9) → OnErr text (Prints (codes "no memory\n") x y) → y ≡ record x { sink = y.sink } → EndsEarly s status x y
early_size (Ok l) items s got wanted status x y is made eight line nine memory others = subst (λ (t : Stop). EndsEarly t status x y) (sym is) (record {
  among = inl eight;
  sink_fault = λ e. absurd (cc);
  medium_fault = λ e. absurd (cc);
  host_fault = λ e. absurd (cc);
  line = λ e. subst (λ (t : List ℕ). Prints t x y) made line;
  no_memory = λ e. absurd (omega (arith, eight, e));
  others = others;
})
early_size (Err e) items s got wanted status x y is made eight line nine memory others = subst (λ (t : Stop). EndsEarly t status x y) (sym is) (record {
  among = inr nine;
  sink_fault = λ e. absurd (cc);
  medium_fault = λ e. absurd (cc);
  host_fault = λ e. absurd (cc);
  line = λ e. absurd (omega (arith, nine, e));
  no_memory = λ e. memory;
  others = others;
})
