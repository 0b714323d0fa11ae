-- What a stream of bytes asks of the program. From docs/SCOPE.md, "The program node", and refusals 20 to 22.
-- A stream is a list of bytes: the first record takes bytes 0 to 23, the second the rest. Definitions only. Assumes nothing.
use Rattle.std.specs.Prelude.{Bool, cond, not, ◌&&◌, List, ℕ, ◌+◌, ◌*◌, ◌≤◌, ◌<◌, ◌^◌, leb, eqb, length, Float, Result, Ok, Err}
use Rattle.std.specs.Float.{binary64}
use Rattle.std.specs.Float.Ieee.{of_bits}
use Rattle.model.specs.declared.Mode.{Mode}
use Rattle.model.specs.declared.Mode.TheVariants.{Fail, Lift}
use Rattle.model.specs.declared.Settings.{Settings}
use Rattle.little_endian.specs.LittleEndian.{le16, le32, le64, numbers_of}
use Rattle.record.specs.declared.Fault as fault

-- ---- records

-- the length of the rest as a u32, then the kind as a u16: from place at on stands a record of that length and kind, and it is not short
unfoldable pub record_at : List ℕ → ℕ → ℕ → ℕ → Bool
record_at s at len kind = leb (at + 4 + len) (length s) && (eqb (le32 s at) len && eqb (le16 s (at + 4)) kind)

-- 'mode (0 Fail, 1 Lift)', and Fail ignores the floor
unfoldable pub mode_of : ℕ → Float → Mode
mode_of mode floor = cond (eqb mode 0) Fail (Lift floor)

-- ncol, nrow, nb, mode and limit as u16 and the floor as an f64, past the six bytes of length and kind
unfoldable pub settings_of : List ℕ → Settings
settings_of s = record {
  ncol = le16 s 6;
  nrow = le16 s 8;
  nb = le16 s 10;
  mode = mode_of (le16 s 12) (of_bits binary64 (le64 s 16));
  limit = le16 s 14;
}

-- how many numbers the panel has
abbrev pub panel_length : Settings → ℕ
panel_length c = c.nrow * c.ncol

-- the second record's numbers, past its six bytes: the input panel
unfoldable pub panel_of : List ℕ → Settings → List Float
panel_of s c = numbers_of s 30 (panel_length c)

-- ---- refusals 20 to 22

-- kind 1, length 20, and the mode is one of the two
unfoldable pub first_sound : List ℕ → Bool
first_sound s = record_at s 0 20 1 && leb (le16 s 12) 1

-- the program's own sizes
unfoldable pub sizes_sound : Settings → Bool
sizes_sound c = leb c.ncol 16 && (leb c.nrow 64 && leb c.nb 16)

-- kind 2, its length two bytes of kind and eight of each of n numbers; and no bytes follow it
unfoldable pub second_sound : List ℕ → ℕ → Bool
second_sound s n = record_at s 24 (2 + 8 * n) 2 && leb (length s) (30 + 8 * n)

-- the number of each fault's refusal, whose place is 0, 0
abbrev pub fault_number : fault.Fault → ℕ
fault_number fault.TheVariants.Settings = 20
fault_number fault.TheVariants.Sizes = 21
fault_number fault.TheVariants.Panel = 22

-- the settings to factor with, or the fault that turns a stream away
abbrev pub Asked : Type 0
Asked = Result Settings fault.Fault

-- what a stream asks: the first fault that is met, or the settings to factor with
unfoldable pub asked_of : List ℕ → Asked
asked_of s =
    let c = settings_of s in
    cond (not (first_sound s)) (Err fault.TheVariants.Settings)
    (cond (not (sizes_sound c)) (Err fault.TheVariants.Sizes) (cond (not (second_sound s (panel_length c))) (Err fault.TheVariants.Panel) (Ok c)))

-- the bytes of the longest stream that asks for a factor: 64 rows of 16 columns
abbrev pub longest : ℕ
longest = 30 + 8 * (64 * 16)

-- ---- what the functions ask of their callers

-- a record has its kind, and the place past it fits
pub record RecordPre (at len : ℕ) : Type 0 where
  pub kind : 2 ≤ len
  pub fits : at + 4 + len < 2 ^ 63
