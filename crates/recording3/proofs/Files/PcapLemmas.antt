-- A header and a frame are read in one way.
use Rattle.std.proofs.Common.{◌≡◌, ℕ, refl, List, arith}
use Rattle.recording3.specs.Octets.{octets}
use Rattle.recording3.specs.Pcap.{IsFrame, IsFileHeader, LacksFrame, LacksFileHeader, pcap_magic}
use Rattle.recording3.specs.declared.contents.Ending.{Ending}
use Rattle.recording3.specs.declared.contents.Frame.{Frame}
use Rattle.recording3.specs.declared.pcap.Header.{Header}
use Rattle.recording3.specs.declared.pcap.Order.{Order}
use Rattle.recording3.specs.declared.pcap.Order.TheVariants.{Big, Little}
use Rattle.recording3.specs.declared.pcap.Unit as units
use Rattle.recording3.specs.declared.pcap.Unit.TheVariants.{Microseconds, Nanoseconds}
use Rattle.recording3.proofs.ReasonsLemmas.{IsOne, one, one_never, none, none_never}

pub same_frame : (h : Header) (file : List ℕ) (at : ℕ) (f g : Frame) → IsFrame h file at f
    → IsFrame h file at g → f ≡ g
same_frame h file at f g a b =
    let q : ◌≡◌ {A = Frame}
    (record { time = f.time; link = f.link; wire = f.wire; begin = f.begin; end = f.end })
    (record { time = g.time; link = g.link; wire = g.wire; begin = g.begin; end = g.end }) = cc in q

pub one_frame : (h : Header) (file : List ℕ) (at : ℕ) → IsOne (LacksFrame h file at)
one_frame h file at = one _ _ _ (one _ _ _ (one _ _ _ (one _ _ _ one_never)))

pub some_frame : (h : Header) (file : List ℕ) (at : ℕ) (f : Frame) (why : Ending)
    → IsFrame h file at f → LacksFrame h file at why → ⊥
some_frame h file at f why a =
    none _ _ _ (λ n. omega arith) (none _ _ _ (λ n. omega arith) (none _ _ _ (λ n. omega arith)
    (none _ _ _ (λ n. omega arith) none_never))) why

same_magic : (n : ℕ) (o p : Order) (u v : units.Unit) → n ≡ pcap_magic o u → n ≡ pcap_magic p v
    → (o ≡ p) × (u ≡ v)
same_magic n Big Big Microseconds Microseconds h g = (refl, refl)
same_magic n Big Big Nanoseconds Nanoseconds h g = (refl, refl)
same_magic n Little Little Microseconds Microseconds h g = (refl, refl)
same_magic n Little Little Nanoseconds Nanoseconds h g = (refl, refl)
same_magic n Big Big Microseconds Nanoseconds h g = absurd (omega arith)
same_magic n Big Big Nanoseconds Microseconds h g = absurd (omega arith)
same_magic n Little Little Microseconds Nanoseconds h g = absurd (omega arith)
same_magic n Little Little Nanoseconds Microseconds h g = absurd (omega arith)
same_magic n Big Little Microseconds Microseconds h g = absurd (omega arith)
same_magic n Big Little Microseconds Nanoseconds h g = absurd (omega arith)
same_magic n Big Little Nanoseconds Microseconds h g = absurd (omega arith)
same_magic n Big Little Nanoseconds Nanoseconds h g = absurd (omega arith)
same_magic n Little Big Microseconds Microseconds h g = absurd (omega arith)
same_magic n Little Big Microseconds Nanoseconds h g = absurd (omega arith)
same_magic n Little Big Nanoseconds Microseconds h g = absurd (omega arith)
same_magic n Little Big Nanoseconds Nanoseconds h g = absurd (omega arith)

pub same_header : (file : List ℕ) (a b : Header) → IsFileHeader file a → IsFileHeader file b → a ≡ b
same_header file a b h g =
    let m =
    same_magic (octets file 0 4) a.form.order b.form.order a.form.unit b.form.unit h.magic_number
    g.magic_number in
    let q : ◌≡◌ {A = Header}
    (record { form = record { order = a.form.order; unit = a.form.unit }; link = a.link })
    (record { form = record { order = b.form.order; unit = b.form.unit }; link = b.link }) = cc in q

pub one_header : (file : List ℕ) → IsOne (LacksFileHeader file)
one_header file = one _ _ _ (one _ _ _ (one _ _ _ one_never))

pub some_header : (file : List ℕ) (a : Header) (why : Ending) → IsFileHeader file a
    → LacksFileHeader file why → ⊥
some_header file a why h =
    none _ _ _ (λ n. omega arith)
    (none _ _ _ (λ n. n a.form h.magic_number) (none _ _ _ (λ n. omega arith) none_never)) why
