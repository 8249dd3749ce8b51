-- The laws of passes:
--   GuaranteeLaws  rules 2 and 3: their tests, and that one guarantee that acts stands for all
pub mod GuaranteeLaws
