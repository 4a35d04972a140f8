-- What tags mean: four characters, highest byte first, small letters as capitals.
use Rattle.std.specs.Prelude.{ℕ, ◌-◌, ◌/◌, ◌%◌, Bool, cond, ◌&&◌, ◌||◌, ◌==◌, nat_le}
use Rattle.std.proofs.Math.Option.{Option, none, some}
use Rattle.records.specs.Reading.{code_from}

-- A to Z, a to z, 0 to 9 or a hyphen
abbrev pub tag_character : ℕ → Bool
tag_character b = (nat_le 65 b && nat_le b 90) || ((nat_le 97 b && nat_le b 122) || ((nat_le 48 b && nat_le b 57) || b == 45))

-- a to z have become A to Z
abbrev pub raised : ℕ → ℕ
raised b = cond (nat_le 97 b && nat_le b 122) (b - 32) b

-- the four bytes of a code, highest first
abbrev pub first_byte : ℕ → ℕ
first_byte code = code / 16777216 % 256

abbrev pub second_byte : ℕ → ℕ
second_byte code = code / 65536 % 256

abbrev pub third_byte : ℕ → ℕ
third_byte code = code / 256 % 256

abbrev pub fourth_byte : ℕ → ℕ
fourth_byte code = code % 256

-- each of the four bytes is a character of a tag
abbrev pub is_tag : ℕ → Bool
is_tag code =
    tag_character (first_byte code)
    && (tag_character (second_byte code)
    && (tag_character (third_byte code) && tag_character (fourth_byte code)))

-- the number of the four bytes once small letters have become capitals
abbrev pub raised_code : ℕ → ℕ
raised_code code =
    code_from (raised (first_byte code)) (raised (second_byte code)) (raised (third_byte code))
    (raised (fourth_byte code))

-- the value of a code
abbrev pub tag_value : ℕ → Option ℕ
tag_value code = cond (is_tag code) (some (raised_code code)) none
