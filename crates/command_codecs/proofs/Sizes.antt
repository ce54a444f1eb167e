-- How long a command is.
use Rattle.std.proofs.Common.{◌≡◌, ◌+◌, ◌++◌, length, arith, length-append}
use Rattle.command_layout.specs.Spelling.{command_of, content_of, imei_bytes, time_bytes}
use Rattle.command_layout.specs.Values.{CommandValue}
use Rattle.command_layout.proofs.CommandFills.{command_size}

pub content_length : (v : CommandValue) → length (content_of v) ≡ length (time_bytes v.time) + length (imei_bytes v.imei) + length v.text
content_length v = omega (arith, length-append (time_bytes v.time) (imei_bytes v.imei ++ v.text), length-append (imei_bytes v.imei) v.text)

pub body_length : (v : CommandValue) → length (command_of v) ≡ length (time_bytes v.time) + length (imei_bytes v.imei) + length v.text + 8
body_length v = omega (arith, command_size v, content_length v)
