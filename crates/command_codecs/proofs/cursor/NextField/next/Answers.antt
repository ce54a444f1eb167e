use Rattle.std.proofs.Common.{Ok, refl, sym, subst, arith}
use Rattle.command_codecs.specs.declared.cursor.NextField.TheVariants as at
use Rattle.command_codecs.specs.CommandCursor.{Follows}
use Rattle.command_codecs.proofs.CursorSteps.{short_field, text_follows, time_follows}
use Rattle.command_codecs.proofs.cursor.NextField.next.Goals as goal

pub returns-in-Codec-clause-follows : goal.returns-in-Codec-clause-follows
returns-in-Codec-clause-follows c v field width reads =
    subst (λ s. Follows c.args.way c.args.total s v field c.after_codec.result) (sym c.in-Codec.is) (c.after_codec.ensures.follows c.args.total v field (reads (short_field c.args.self at.Codec 1 field c.in-Codec.is refl (omega arith) width)))

pub returns-in-Quantity-clause-follows : goal.returns-in-Quantity-clause-follows
returns-in-Quantity-clause-follows c v field width reads =
    subst (λ s. Follows c.args.way c.args.total s v field c.after_quantity.result) (sym c.in-Quantity.is) (c.after_quantity.ensures.follows c.args.way c.args.total v field (reads (short_field c.args.self (at.Quantity c.in-Quantity.row) 1 field c.in-Quantity.is refl (omega arith) width)))

pub returns-in-Kind-clause-follows : goal.returns-in-Kind-clause-follows
returns-in-Kind-clause-follows c v field width reads =
    subst (λ s. Follows c.args.way c.args.total s v field c.after_kind.result) (sym c.in-Kind.is) (c.after_kind.ensures.follows c.args.way c.args.total v field (reads (short_field c.args.self (at.Kind c.in-Kind.row) 1 field c.in-Kind.is refl (omega arith) width)))

pub returns-in-Size-clause-follows : goal.returns-in-Size-clause-follows
returns-in-Size-clause-follows c v field width reads =
    subst (λ s. Follows c.args.way c.args.total s v field c.after_size.result) (sym c.in-Size.is) (c.after_size.ensures.follows c.args.way v field (reads (short_field c.args.self (at.Size c.in-Size.row) 4 field c.in-Size.is refl (omega arith) width)))

pub returns-in-FirstDigit-clause-follows : goal.returns-in-FirstDigit-clause-follows
returns-in-FirstDigit-clause-follows c v field width reads =
    subst (λ s. Follows c.args.way c.args.total s v field c.after_first_digit.result) (sym c.in-FirstDigit.is) (c.after_first_digit.ensures.follows c.args.way c.args.total v field (reads (short_field c.args.self (at.FirstDigit c.in-FirstDigit.text) 1 field c.in-FirstDigit.is refl (omega arith) width)))

pub returns-in-Digits-clause-follows : goal.returns-in-Digits-clause-follows
returns-in-Digits-clause-follows c v field width reads =
    subst (λ s. Follows c.args.way c.args.total s v field c.after_digits.result) (sym c.in-Digits.is) (c.after_digits.ensures.follows c.args.way c.args.total v field (reads (short_field c.args.self (at.Digits c.in-Digits.behind c.in-Digits.text) 1 field c.in-Digits.is refl (omega arith) width)))

pub returns-in-LastQuantity-clause-follows : goal.returns-in-LastQuantity-clause-follows
returns-in-LastQuantity-clause-follows c v field width reads =
    subst (λ s. Follows c.args.way c.args.total s v field c.after_last.result) (sym c.in-LastQuantity.is) (c.after_last.ensures.follows c.args.way c.args.total v field (reads (short_field c.args.self at.LastQuantity 1 field c.in-LastQuantity.is refl (omega arith) width)))

pub returns-in-Time-clause-follows : goal.returns-in-Time-clause-follows
returns-in-Time-clause-follows c v field width reads =
    subst (λ s. Follows c.args.way c.args.total s v field (Ok c.at_imei.result)) (sym c.in-Time.is) (time_follows c.args.way c.args.total c.in-Time.text c.in-Time.imei v field c.at_imei.result (c.at_imei.ensures.rows c.args.way c.args.total))

pub returns-in-Text-clause-follows : goal.returns-in-Text-clause-follows
returns-in-Text-clause-follows c v field width reads =
    subst (λ s. Follows c.args.way c.args.total s v field (Ok at.LastQuantity)) (sym c.in-Text.is) (text_follows c.args.way c.args.total c.in-Text.field-0 v field)
