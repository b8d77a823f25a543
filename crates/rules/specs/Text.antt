-- Request 2026-01: "Names follow the text rules of 003 section 7.1, checked but not turned into glyphs": the Multilingual Text String,
-- "one or more instances of mode, length, segment", which fill it. Characters aren't looked at, nor which format effectors are assigned:
-- unknown ones are discarded (7.1.2.3), so their bytes are good and stay.
use Rattle.std.specs.Prelude.{ℕ, zero, suc, ◌+◌, ◌%◌, Bool, true, cond, ◌&&◌, ◌||◌, List, length, leb, ltb, eqb}
use Rattle.rules.specs.Bytes.{byte, from}

-- ---- Table 7.3, row by row: what a mode byte is. The rows between, 0x07-0x08, 0x11-0x1F, 0x28-0x2F and 0x34-0x3E, are reserved.

abbrev pub within : (low high x : ℕ) → Bool
within low high x = leb low x && leb x high

-- "Select ISO/IEC 10646-1 Page"
unfoldable pub is_page : (mode : ℕ) → Bool
is_page mode = leb mode 0x06 || within 0x09 0x10 mode || within 0x20 0x27 mode || within 0x30 0x33 mode

-- "Select 16-bit ISO/IEC 10646-1 mode"
unfoldable pub is_wide : (mode : ℕ) → Bool
is_wide mode = eqb mode 0x3F

-- "Format effector (single byte)": "the length/segment portion is omitted"
unfoldable pub is_single : (mode : ℕ) → Bool
is_single mode = within 0x40 0x9F mode

-- "Format effector (with parameter[s])"
unfoldable pub is_long : (mode : ℕ) → Bool
is_long mode = leb 0xA0 mode

-- ---- a block

-- the bytes of the block at the front: mode, length and segment, or the mode alone
unfoldable pub block_size : List ℕ → ℕ
block_size bs = cond (is_single (byte 0 bs)) 1 (2 + byte 1 bs)

-- its mode isn't reserved; characters of 16 bits have an even length (Table 7.4, with `< 0x3F` as in 000: Table 7.3 and the prose agree)
unfoldable pub good_mode : (mode size : ℕ) → Bool
good_mode mode size = is_page mode || is_single mode || is_long mode || (is_wide mode && eqb (size % 2) 0)

-- ---- a text

-- blocks that fill the bytes, at most so many
unfoldable pub blocks : ℕ → List ℕ → Bool
blocks zero bs = eqb (length bs) 0
blocks (suc n) bs =
    cond (eqb (length bs) 0) true
    (leb (block_size bs) (length bs) && good_mode (byte 0 bs) (byte 1 bs) && blocks n (from bs (block_size bs)))

-- one or more: there are never more than bytes, so the bound is never met
unfoldable pub good_text : List ℕ → Bool
good_text bs = ltb 0 (length bs) && blocks (length bs) bs
