mod Servings
mod Runs
