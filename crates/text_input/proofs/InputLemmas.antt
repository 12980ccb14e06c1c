-- What a source lost in several reads.
use Rattle.std.proofs.Common.{ℕ, ◌+◌, ◌≤◌, Err, inr, List, [], ◌++◌, length, take, subst, arith, length-append, length-take, append-nil}
use Rattle.std.specs.Io.KnownBytes.{Consumes, Keeps}
use Rattle.std.proofs.KnownBytes.{Consumes-kept, Consumes-trans}
use Rattle.text_input.specs.declared.input.InputError.{InputError}
use Rattle.text_input.specs.declared.input.InputError.TheVariants.{TooLong, Memory, Io}
use Rattle.text_input.specs.Input.{Loses, ReadsUpTo, TellsFault}
use Rattle.text_input.specs.Source.{SourceState}

-- one more read, of the first n bytes of a part
pub lost_more : (a b c : SourceState) (m n : ℕ) (bs part : List ℕ) → Loses a b m bs → Consumes b.remaining c.remaining (take n part)
    → length bs + n ≤ m → Loses a c m (bs ++ take n part)
lost_more a b c m n bs part first next fits = record {
  lost = Consumes-trans a.remaining b.remaining c.remaining bs (take n part) first.lost next;
  bounded = omega (arith, length-append bs (take n part), length-take n part);
}

-- one more read, which told the end
pub lost_at_end : (a b c : SourceState) (m k : ℕ) (bs part : List ℕ) → Loses a b m bs → Consumes b.remaining c.remaining (take 0 part)
    → length bs ≤ k → Loses a c k bs
lost_at_end a b c m k bs part first next fits = record {
  lost = subst (Consumes a.remaining c.remaining) (append-nil bs) (Consumes-trans a.remaining b.remaining c.remaining bs [] first.lost next);
  bounded = fits;
}

-- one more read, which failed
pub lost_no_more : (a b c : SourceState) (m : ℕ) (bs : List ℕ) → Loses a b m bs → Keeps b.remaining c.remaining → Loses a c m bs
lost_no_more a b c m bs first next = record {
  lost = Consumes-kept a.remaining b.remaining c.remaining bs first.lost next;
  bounded = first.bounded;
}

-- a read that failed is told by its fault
pub read_failed : (limit : ℕ) (a c : SourceState) (bs : List ℕ) (e : InputError) → Loses a c (limit + 1) bs → TellsFault e c.fault
    → ReadsUpTo limit a c (Err e)
read_failed limit a c bs TooLong lost told = absurd told
read_failed limit a c bs Memory lost told = ((bs, lost), inr told)
read_failed limit a c bs Io lost told = ((bs, lost), told)
