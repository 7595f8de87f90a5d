-- Joined words and the words behind them. Assumes nothing.
use Prim.Native.Nat.{ℕ}
use mathlib.Core.Path.{◌≡◌, refl, sym, ap, ◌∙◌}
use mathlib.Core.List.{List, [], ◌∷◌, ◌++◌, append_assoc, append-nil}
use Rattle.lists.specs.Lists.{each}
use Rattle.text.specs.Text.{joined}

-- bytes behind joined words stand behind their end
pub joined_longer : (between : ℕ) (end more : List ℕ) (ws : List (List ℕ))
    → joined between end ws ++ more ≡ joined between (end ++ more) ws
unfolding joined
joined_longer between end more [] = refl
joined_longer between end more (w ∷ []) = append_assoc w end more
joined_longer between end more (w ∷ v ∷ ws) =
    append_assoc (w ++ (between ∷ [])) (joined between end (v ∷ ws)) more
    ∙ ap (◌++◌ (w ++ (between ∷ []))) (joined_longer between end more (v ∷ ws))

-- words ended by the byte between them, and words behind them, are one row of words
pub joined-append : (between : ℕ) (end w v : List ℕ) (ws vs : List (List ℕ))
    → joined between (between ∷ []) (w ∷ ws) ++ joined between end (v ∷ vs) ≡ joined between end ((w ∷ ws) ++ (v ∷ vs))
unfolding joined
joined-append between end w v [] vs = refl
joined-append between end w v (u ∷ ws) vs =
    append_assoc (w ++ (between ∷ [])) (joined between (between ∷ []) (u ∷ ws)) (joined between end (v ∷ vs))
    ∙ ap (◌++◌ (w ++ (between ∷ []))) (joined-append between end u v ws vs)

-- words ended by the byte between them are words each with that byte
pub joined-each : (between : ℕ) (w : List ℕ) (ws : List (List ℕ))
    → joined between (between ∷ []) (w ∷ ws) ≡ each (λ v. v ++ (between ∷ [])) (w ∷ ws)
unfolding joined each
joined-each between w [] = sym (append-nil (w ++ (between ∷ [])))
joined-each between w (v ∷ ws) = ap (◌++◌ (w ++ (between ∷ []))) (joined-each between v ws)

-- the last word and the end stand behind the other words, each with its byte
pub joined-last : (between : ℕ) (end : List ℕ) (ws : List (List ℕ)) (w : List ℕ)
    → joined between end (ws ++ (w ∷ [])) ≡ each (λ v. v ++ (between ∷ [])) ws ++ (w ++ end)
unfolding joined each
joined-last between end [] w = refl
joined-last between end (v ∷ ws) w =
    sym (joined-append between end v w ws []) ∙ ap (λ front. front ++ (w ++ end)) (joined-each between v ws)
