-- The fields of a word read back as they were laid out: where each fits its place, none runs into the next.
-- Assumes nothing.
use mathlib.Core.Path.{◌≡◌}
use Prim.Native.Nat.{◌^◌, ◌<◌}
use native.Mathlib.Omega.{arith}
use Rattle.words.specs.Manual.{Rbar, Rasr, rbar_word, rasr_word, rbar_of, rasr_of}

-- fields that are no wider than their places
pub record RbarFits (f : Rbar) : Type 0 where
  pub addr : f.addr < 2 ^ 27
  pub valid : f.valid < 2
  pub region : f.region < 2 ^ 4

pub record RasrFits (f : Rasr) : Type 0 where
  pub xn : f.xn < 2
  pub ap : f.ap < 2 ^ 3
  pub tex : f.tex < 2 ^ 3
  pub s : f.s < 2
  pub c : f.c < 2
  pub b : f.b < 2
  pub srd : f.srd < 2 ^ 8
  pub size : f.size < 2 ^ 5
  pub enable : f.enable < 2

-- two words' fields are the same one by one
same_rbar : {f g : Rbar} → f.addr ≡ g.addr → f.valid ≡ g.valid → f.region ≡ g.region → f ≡ g
same_rbar addr valid region = λ j. record { addr = addr j; valid = valid j; region = region j }

same_rasr : {f g : Rasr}
    → f.xn ≡ g.xn → f.ap ≡ g.ap → f.tex ≡ g.tex → f.s ≡ g.s → f.c ≡ g.c → f.b ≡ g.b → f.srd ≡ g.srd
    → f.size ≡ g.size → f.enable ≡ g.enable → f ≡ g
same_rasr xn ap tex s c b srd size enable =
    λ j. record { xn = xn j; ap = ap j; tex = tex j; s = s j; c = c j; b = b j; srd = srd j; size = size j; enable = enable j }

pub rbar_back : (f : Rbar) → RbarFits f → rbar_of (rbar_word f) ≡ f
rbar_back f fits = same_rbar (omega arith) (omega arith) (omega arith)

pub rasr_back : (f : Rasr) → RasrFits f → rasr_of (rasr_word f) ≡ f
rasr_back f fits =
    same_rasr (omega arith) (omega arith) (omega arith) (omega arith) (omega arith) (omega arith) (omega arith) (omega arith) (omega arith)
