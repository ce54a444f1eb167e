-- What is drawn for a made script (this project's own): words of the generator PCG32, each modulo a number, in the order in which they are named.
use Rattle.std.specs.Prelude.{ℕ, zero, suc, ◌+◌, ◌%◌, ◌==◌, nat_le, List, [], ◌∷◌, if◌then◌else◌}
use Rattle.medium_model.specs.declared.bench.Tear.{Tear}
use Rattle.rand_core.specs.Pcg32Seed.{pcg32_seed}
use Rattle.rand_pcg.specs.Lcg.{Lcg}
use Rattle.rand_pcg.specs.Pcg.{pcg32, pcg32_of_seed}
use Rattle.made_script.specs.declared.turn.Event.{Event}
use Rattle.made_script.specs.declared.turn.Event.TheVariants.{CutRound, DeviceFuse, Nothing, Power, ServerFuse, WholeRound}
use Rattle.made_script.specs.declared.turn.Turn.{Turn}

-- what is drawn, and the generator after it
abbrev pub Drawn : Type 0 → Type 0
Drawn A = A × Lcg

-- the generator of a seed
unfoldable pub seeded : ℕ → Lcg
seeded seed = pcg32_of_seed (pcg32_seed 16 seed)

-- its next word, modulo n
unfoldable pub draw : ℕ → Lcg → Drawn ℕ
draw n generator = ((pcg32 generator).0 % n, (pcg32 generator).1)

-- the tears by their numbers
abbrev pub tear_at : ℕ → Tear
tear_at n = if n == 0 then Tear.Keep else if n == 1 then Tear.New else if n == 2 then Tear.Zero else if n == 3 then Tear.AllOpen else Tear.Half

abbrev pub drawn_whole : Lcg → Drawn Event
drawn_whole generator =
    let piece = draw 64 generator in
    (WholeRound (1 + piece.0), piece.1)

abbrev pub drawn_cut : Lcg → Drawn Event
drawn_cut generator =
    let piece = draw 64 generator in
    let up = draw 200 piece.1 in
    (CutRound (1 + piece.0) up.0, up.1)

-- a fuse with fewer calls than this
abbrev pub drawn_fuse : (ℕ → Tear → Event) → ℕ → Lcg → Drawn Event
drawn_fuse fuse most generator =
    let calls = draw most generator in
    let tear = draw 5 calls.1 in
    (fuse calls.0 (tear_at tear.0), tear.1)

-- the event of this number of 16
unfoldable pub event_of : ℕ → Lcg → Drawn Event
event_of number generator =
    if nat_le number 3 then drawn_whole generator else if number == 4 then drawn_cut generator else if number == 5 then (Power, generator) else
    if number == 6 then drawn_fuse DeviceFuse 8 generator else if number == 7 then drawn_fuse ServerFuse 4 generator else (Nothing, generator)

unfoldable pub drawn_event : Lcg → Drawn Event
drawn_event generator =
    let number = draw 16 generator in
    event_of number.0 number.1

-- a turn of one of N devices
unfoldable pub drawn_turn : ℕ → Lcg → Drawn Turn
drawn_turn devices generator =
    let device = draw devices generator in
    let speed = draw 120 device.1 in
    let bend = draw 31 speed.1 in
    let east = draw 1000000 bend.1 in
    let north = draw 1000000 east.1 in
    let ignition = draw 8 north.1 in
    let voltage = draw 6000 ignition.1 in
    let event = drawn_event voltage.1 in (
      record {
        device = 1 + device.0;
        speed = speed.0;
        bend = bend.0;
        east = east.0;
        north = north.0;
        ignition = if ignition.0 == 0 then 0 else 1;
        voltage = 10000 + voltage.0;
        event = event.0;
      },
      event.1,
    )

-- N turns, one after another
unfoldable pub drawn_turns : ℕ → ℕ → Lcg → List Turn
drawn_turns devices zero generator = []
drawn_turns devices (suc turns) generator =
    let turn = drawn_turn devices generator in
    turn.0 ∷ drawn_turns devices turns turn.1
