-- The bytes of a settings file are one thing alone.
use Rattle.std.proofs.Common.{◌≡◌, ℕ, List, Result, inl, inr, sym, ap, ◌∙◌}
use Rattle.toml.specs.Data.{Members}
use Rattle.settings_file.specs.declared.keys.Expert.{Expert}
use Rattle.settings_file.specs.declared.settings.SettingsFile.{SettingsFile}
use Rattle.settings_file.specs.Document.{IsDocument, IsNoDocument}
use Rattle.settings_file.specs.Faults.{Broken}
use Rattle.settings_file.specs.Settings.{AreSettingsOf, settings_of}

same_document : (bytes : List ℕ) (a b : Members) → IsDocument bytes a → IsDocument bytes b → a ≡ b
same_document bytes a b p q = let e = sym p.parsed ∙ q.parsed in cc

not_both : (bytes : List ℕ) (a : Members) → IsDocument bytes a → IsNoDocument bytes → ⊥
not_both bytes a p n = let e = sym p.parsed ∙ n p.utf8 in absurd (cc)

pub one_answer : (need : Expert) (bytes : List ℕ) (a b : Result SettingsFile Broken) → AreSettingsOf need bytes a → AreSettingsOf need bytes b → a ≡ b
one_answer need bytes a b (inl p) (inl q) = p.2 ∙ (ap (settings_of need) (same_document bytes p.0 q.0 p.1 q.1) ∙ sym q.2)
one_answer need bytes a b (inl p) (inr q) = absurd (not_both bytes p.0 p.1 q.1)
one_answer need bytes a b (inr p) (inl q) = absurd (not_both bytes q.0 q.1 p.1)
one_answer need bytes a b (inr p) (inr q) = p.0 ∙ sym q.0
