-- How names and paths are spelled: the lengths and the letters that maps, marks, devices and pins may have
-- (names have room for 15 bytes in `linux/bpf.h`; the letters and the length of a path are this project's own).
use Rattle.std.specs.Prelude.{ℕ, Bool, List, ◌==◌, ◌&&◌, ◌||◌, nat_le, length}
use Rattle.std.specs.List.{list_all, starts_with}
use Rattle.std.specs.Prelude.{codes, nat_eq}

-- between two letters
abbrev pub is_between : ℕ → ℕ → ℕ → Bool
is_between low high byte = nat_le low byte && nat_le byte high

-- one of `A-Z a-z 0-9 _ . -`
abbrev pub is_name_letter : ℕ → Bool
is_name_letter byte =
    is_between 65 90 byte || is_between 97 122 byte || is_between 48 57 byte || byte == 95 || byte == 46 || byte == 45

-- 1 to 15 name letters
unfoldable pub is_name : List ℕ → Bool
is_name word = is_between 1 15 (length word) && list_all is_name_letter word

-- a name letter or `/`
abbrev pub is_path_letter : ℕ → Bool
is_path_letter byte = is_name_letter byte || byte == 47

-- 2 to 255 bytes: `/` and then path letters
unfoldable pub is_path : List ℕ → Bool
is_path word =
    is_between 2 255 (length word) && starts_with nat_eq word (codes "/") && list_all is_path_letter word
