-- The words of an empty list, and the tail after a write to another word.
use Rattle.futures_buffered_table.proofs.Common.{◌≡◌, ◌≢◌, ℕ, ◌+◌, ◌<◌, List, [], length, set, get_or, replicate, sym, subst, arith, get_or-set_other, get_or-append_seam, get_or_append_left, get_or-replicate, length-replicate, tail_at, empty_words, tail}
use Rattle.futures_buffered_table.proofs.ListLemmas.{length_and_last}

pub empty_word : (n i : ℕ) → i < tail_at n → get_or (empty_words n) i 0 ≡ 0
empty_word n i lt = grind (arith, get_or_append_left, length-replicate, get_or-replicate)

pub empty_tail : (n : ℕ) → tail n (empty_words n) ≡ n
empty_tail n = subst (λ (k : ℕ). get_or (empty_words n) k 0 ≡ n) (length-replicate (tail_at n) 0)
    (get_or-append_seam (replicate (tail_at n) 0) n [] 0)

pub empty_wide : (n : ℕ) → length (empty_words n) ≡ n + n + 2
empty_wide n = let a = length_and_last (tail_at n) 0 n in omega arith

pub tail_kept : (n : ℕ) (words : List ℕ) (i x : ℕ) → i ≢ tail_at n → tail n (set words i x) ≡ tail n words
tail_kept n words i x ne = get_or-set_other words i (tail_at n) x 0 (λ z. ne (sym z))
