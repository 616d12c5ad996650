-- Digits are written: one law for each need of the function that writes them.
use Rattle.std.proofs.Common.{ℕ, ◌+◌, ◌/◌, ◌%◌, ◌≤◌, ◌<◌, ◌≡◌, length, ap, arith, length-append, rules}
use Rattle.fields.specs.Write.{byte_of}
use Rattle.writing.specs.declared.Writer.{Writer}
use Rattle.writing.specs.Inside.Wrote.{Wrote}
use Rattle.writing.proofs.Writing.{wrote_then}
use Rattle.text.specs.Listing.{decimal}
use Rattle.text.proofs.Decimals.{one_digit, last_digit}

one_longer : (n : ℕ) → 10 ≤ n → length (decimal n) ≡ length (decimal (n / 10)) + 1
one_longer n more = omega (arith, ap length (last_digit n more), length-append (decimal (n / 10)) (byte_of (48 + n % 10)))

module _ (n : ℕ) (old : Writer) where
  module _ (less : n < 10) where
    pub digit_fits : old.at + length (decimal n) ≤ length old.out.now → old.at < length old.out.now
    digit_fits room = omega (arith, ap length (one_digit n less))

    pub digit_written : {d : ℕ} {new : Writer} → d ≡ 48 + n % 10 → Wrote (byte_of d) old new → Wrote (decimal n) old new
    digit_written e wrote = rw (one_digit n less, ← e) wrote

  module _ (more : 10 ≤ n) where
    pub tenth_fits : old.at + length (decimal n) ≤ length old.out.now → old.at + length (decimal (n / 10)) ≤ length old.out.now
    tenth_fits room = omega (arith, one_longer n more)

    module _ {w : Writer} (tenth : Wrote (decimal (n / 10)) old w) where
      pub last_fits : old.at + length (decimal n) ≤ length old.out.now → w.at < length w.out.now
      last_fits room = omega (arith, one_longer n more, tenth.behind, tenth.long)

      pub last_written : {d : ℕ} {new : Writer} → d ≡ 48 + n % 10 → Wrote (byte_of d) w new → Wrote (decimal n) old new
      last_written e wrote = rw (last_digit n more, ← e) (wrote_then tenth wrote)

pub ruleset laws = (digit_fits, digit_written, tenth_fits, last_fits, last_written, rules)
