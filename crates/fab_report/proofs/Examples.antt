-- Worked examples, whose values are those of an independent program.
mod Recipes
mod Reports
